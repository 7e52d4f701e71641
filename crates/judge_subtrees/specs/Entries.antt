-- What judging asks of the entries of a tree block: each holds a well-formed tree, and a list of them ends where it should.
use Rattle.std.specs.Prelude.{ℕ, ◌+◌, ◌≤◌, List, ◌≡◌, Bool, ◌&&◌, eqb, ltb, length}
use Rattle.rules.specs.Words.{Has}
use Rattle.rules.specs.Heartbeats.{EventCode}
use Rattle.rules.specs.Trees.{Tree, Forest, size, sizes, labels_all}
use Rattle.rules.specs.WellFormed.{Distinct, WideAll, WellFormed}
use Rattle.rules.specs.TreeBlock.{kind_at, argument_at}
use Rattle.rules.specs.Holds.{Holds, HoldsAll}
use Rattle.rules.specs.Calls.{code_count}
use Rattle.code_sets.specs.Bits.{any_below}

-- a list of well-formed trees that have no code in common
pub record WellFormedAll (m : ℕ) (f : Forest) : Type 0 where
  pub wide : WideAll f
  pub coded : (c : ℕ) → Has c (labels_all f) → EventCode m c
  pub distinct : Distinct (labels_all f)

-- entry v holds a well-formed tree that ends by `end`
pub record Subtree (b : List ℕ) (v end : ℕ) : Type 0 where
  pub tree : Tree
  pub held : Holds tree b v
  pub formed : WellFormed code_count tree
  pub ends : v + size tree ≤ end

-- the entries from `from` up to `end` hold a list of trees
pub record Subtrees (b : List ℕ) (from end : ℕ) : Type 0 where
  pub trees : Forest
  pub held : HoldsAll trees b from
  pub ends : from + sizes trees ≡ end

-- a leaf among n entries from v on has the code c
unfoldable pub labelled : List ℕ → ℕ → ℕ → ℕ → Bool
labelled b v n c = any_below n (λ k. eqb (kind_at b (v + k)) 2 && (ltb (argument_at b (v + k)) code_count && eqb c (argument_at b (v + k))))

-- what is lent is long enough, and the episode short enough
pub record Sized (b e work : List ℕ) : Type 0 where
  pub block : length b ≡ 512
  pub short : length e ≤ 63
  pub room : 8128 ≤ length work
