-- What is written into a tree's block, from an entry on.
use Rattle.std.specs.Prelude.{◌≡◌, List, ◌++◌, ℕ, ◌+◌, ◌*◌, length, take, drop}
use Rattle.rules.specs.Trees.{Tree, Forest, size, sizes}
use Rattle.rules.specs.TreeBlock.{entries, entries_all}

-- bytes put in from a place, the others as they were
abbrev pub laid : ℕ → List ℕ → List ℕ → List ℕ
laid at xs old = take at old ++ xs ++ drop (at + length xs) old

-- n entries from an entry on, nothing else, and the next entry answered
pub record Wrote (n : ℕ) (bytes : List ℕ) (at : ℕ) (old : List ℕ) (r : ℕ) (new : List ℕ) : Type 0 where
  pub next : r ≡ at + n
  pub block : new ≡ laid (at * 4) bytes old

-- a tree
abbrev pub WroteTree : Tree → ℕ → List ℕ → ℕ → List ℕ → Type 0
WroteTree t at old r new = Wrote (size t) (entries t) at old r new

-- the trees of a forest
abbrev pub WroteAll : Forest → ℕ → List ℕ → ℕ → List ℕ → Type 0
WroteAll f at old r new = Wrote (sizes f) (entries_all f) at old r new
