-- What is asked of all nodes, and what is concluded from the root's rows.
use Rattle.std.specs.Prelude.{ℕ, ◌+◌, ◌≤◌, ◌<◌, List, ◌≡◌, Bool, drop}
use Rattle.rules.specs.Trees.{Tree, size, In}
use Rattle.rules.specs.WellFormed.{WellFormed}
use Rattle.rules.specs.Holds.{Holds}
use Rattle.rules.specs.Calls.{code_count, entry_count}
use Rattle.judge_rows.specs.Rows.{Says}
use Rattle.judge_subtrees.specs.Entries.{Subtree, Sized}
use Rattle.judge_nodes.specs.Children.{Ready}

-- what all n nodes ask
pub record Nodes (b e work : List ℕ) (n : ℕ) : Type 0 where
  pub sized : Sized b e work
  pub each : (v : ℕ) → v < n → Subtree b v n
  pub some : 0 < n
  pub few : n ≤ entry_count

-- entry v has its rows now, those after it still have theirs, and the work past all rows is as it was
pub record Placed (b e : List ℕ) (v : ℕ) (old new : List ℕ) : Type 0 where
  pub ready : (n : ℕ) → Subtree b v n → Ready b e old (v + 1) n → Ready b e new v n
  pub rest : drop 8128 new ≡ drop 8128 old

-- the test says exactly when the tree of n entries has the episode
unfoldable pub FitSays : List ℕ → ℕ → List ℕ → Bool → Type 0
FitSays b n e r = (t : Tree) → Holds t b 0 → size t ≡ n → WellFormed code_count t → Says r (In t e)
