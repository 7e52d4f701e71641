-- Rows of places. An episode of n events has the places 0 to n; a table has a row for each place, and `at R i j` is place j of row i.
use Rattle.std.specs.Prelude.{ℕ, ◌+◌, ◌*◌, ◌≤◌, ◌<◌, List, [], ◌∷◌, ◌≡◌, Bool, true, false, ◌&&◌, ◌||◌, not, leb, ltb, eqb, length, get_or}
use Rattle.std.proofs.Math.Seq.{slice}
use Rattle.rules.specs.Words.{pick, all}
use Rattle.rules.specs.Trees.{Op, choice, sequence, parallel, loop}
use Rattle.code_sets.specs.Bits.{has, any_below}

abbrev pub at : List ℕ → ℕ → ℕ → Bool
at R i j = has (get_or R i 0) j

-- places i ≤ j of the episode, with P of the events between them
unfoldable pub between : (List ℕ → Bool) → List ℕ → ℕ → ℕ → Bool
between P e i j = leb i j && (leb j (length e) && P (slice i j e))

-- no event is in B
abbrev pub clear : (ℕ → Bool) → List ℕ → Bool
clear B = all (λ c. not (B c))

-- the codes of S that T has not
abbrev pub less : (ℕ → Bool) → (ℕ → Bool) → ℕ → Bool
less S T c = S c && not (T c)

-- exactly one event is a
unfoldable pub single : ℕ → List ℕ → Bool
single a [] = false
single a (c ∷ l) = pick (eqb c a) (clear (λ x. eqb x a) l) (single a l)

-- a row, and after it the rows of a table
unfoldable pub after : (ℕ → Bool) → (ℕ → ℕ → Bool) → ℕ → Bool
after A B j = any_below 64 (λ k. A k && B k j)

-- row i of a table joined to another table, as the children of this operator are
abbrev pub joined_by : Op → (ℕ → Bool) → (ℕ → ℕ → Bool) → ℕ → ℕ → Bool
joined_by choice A B i j = A j || B i j
joined_by sequence A B i j = after A B j
joined_by parallel A B i j = A j && B i j
joined_by loop A B i j = A j || B i j

-- a body, then any number of times a redo and a body
pub data Loops (A B : ℕ → ℕ → Bool) : ℕ → ℕ → Type 0 where
  once : {i j : ℕ} → A i j ≡ true → Loops A B i j
  again : {i k m j : ℕ} → A i k ≡ true → B k m ≡ true → Loops A B m j → Loops A B i j

-- the test says exactly when
abbrev pub Says : Bool → Type 0 → Type 0
Says t X = (t ≡ true → X) × (X → t ≡ true)

-- a row has places from its own on alone
unfoldable pub Upper : (ℕ → ℕ → Bool) → Type 0
Upper A = (i j : ℕ) → A i j ≡ true → (i ≤ j) × (j < 64)

-- place j of row i of entry v, in the work
unfoldable pub kept : List ℕ → ℕ → ℕ → ℕ → Bool
kept work v i j = ltb i 64 && has (get_or work (v * 64 + i) 0) j

-- the first n rows of R stand in the work at entry v, and all else is as it was
pub record Stored (old : List ℕ) (v : ℕ) (R : List ℕ) (n : ℕ) (new : List ℕ) : Type 0 where
  pub size : length new ≡ length old
  pub rows : (i : ℕ) → i < n → get_or new (v * 64 + i) 0 ≡ get_or R i 0
  pub below : (k : ℕ) → k < v * 64 → get_or new k 0 ≡ get_or old k 0
  pub above : (k : ℕ) → v * 64 + n ≤ k → get_or new k 0 ≡ get_or old k 0
