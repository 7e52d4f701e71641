-- How a block holds a tree: its entry, and its children's from the next entry on.
use Rattle.std.specs.Prelude.{◌≡◌, List, ℕ, suc, ◌+◌}
use Rattle.rules.specs.Trees.{Tree, silent, leaf, node, Forest, none, more, size, sizes, children}
use Rattle.rules.specs.TreeBlock.{kind_of, kind_at, argument_at, size_at, zero_at}

-- the four bytes of entry v
pub record EntryIs (b : List ℕ) (v k a s : ℕ) : Type 0 where
  pub kind : kind_at b v ≡ k
  pub argument : argument_at b v ≡ a
  pub size : size_at b v ≡ s
  pub zero : zero_at b v ≡ 0

-- entry v of the block b holds the tree; the entries from v on hold the trees
abbrev mutual
  pub Holds : Tree → List ℕ → ℕ → Type 0
  Holds silent b v = EntryIs b v 1 0 1
  Holds (leaf a) b v = EntryIs b v 2 a 1
  Holds (node o f) b v = EntryIs b v (kind_of o) (children f) (suc (sizes f)) × HoldsAll f b (v + 1)

  pub HoldsAll : Forest → List ℕ → ℕ → Type 0
  HoldsAll none b v = Unit {0}
  HoldsAll (more t f) b v = Holds t b v × HoldsAll f b (v + size t)
