-- A node's rows, and what is asked of a node.
use Rattle.std.specs.Prelude.{ℕ, ◌+◌, List, Bool}
use Rattle.rules.specs.Words.{mem}
use Rattle.rules.specs.Trees.{Tree, labels, In}
use Rattle.rules.specs.WellFormed.{WellFormed}
use Rattle.rules.specs.TreeBlock.{size_at}
use Rattle.rules.specs.Holds.{Holds}
use Rattle.rules.specs.Calls.{code_count, entry_count}
use Rattle.judge_meanings.specs.Means.{Means}
use Rattle.judge_subtrees.specs.Entries.{Subtree, Sized}
use Rattle.judge_nodes.specs.Children.{Ready}

-- what a node asks: a tree at its entry, and the rows of the entries below it
pub record Node (b e work : List ℕ) (v : ℕ) : Type 0 where
  pub sized : Sized b e work
  pub below : Subtree b v entry_count
  pub ready : Ready b e work (v + 1) (v + size_at b v)

-- rows of the node at entry v
unfoldable pub NodeMeans : List ℕ → List ℕ → ℕ → (ℕ → ℕ → Bool) → Type 0
NodeMeans b e v R = (t : Tree) → Holds t b v → WellFormed code_count t → Means (λ c. mem c (labels t)) (λ w. In t w) e R
