-- What a table of rows means: place j of row i is set exactly where the events of S between i and j are an episode of L.
use Rattle.std.specs.Prelude.{ℕ, ◌≤◌, List, ◌++◌, ◌≡◌, Bool, true, length}
use Rattle.std.proofs.Math.Seq.{slice}
use Rattle.rules.specs.Words.{keep}
use Rattle.rules.specs.Trees.{Mixed}

abbrev pub Lang : Type 1
Lang = List ℕ → Type 0

-- the events of S between two places
abbrev pub word : (ℕ → Bool) → List ℕ → ℕ → ℕ → List ℕ
word S e i j = keep S (slice i j e)

pub record Place (S : ℕ → Bool) (L : Lang) (e : List ℕ) (i j : ℕ) : Type 0 where
  pub order : i ≤ j
  pub inside : j ≤ length e
  pub holds : L (word S e i j)

unfoldable pub Means : (ℕ → Bool) → Lang → List ℕ → (ℕ → ℕ → Bool) → Type 0
Means S L e R = (i j : ℕ) → (R i j ≡ true → Place S L e i j) × (Place S L e i j → R i j ≡ true)

-- a joining in order, as `InRow` has it
abbrev pub Joined : Lang → Lang → Lang
Joined K L w = (u : List ℕ) × (v : List ℕ) × (w ≡ u ++ v) × K u × L v

-- an interleaving, as `InMix` has it
abbrev pub Merged : Lang → Lang → Lang
Merged K L w = (u : List ℕ) × (v : List ℕ) × Mixed u v w × K u × L v
