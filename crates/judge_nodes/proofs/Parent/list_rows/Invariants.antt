use Prim.Native.Nat.{◌-◌, ◌≤◌}
use mathlib.Core.Path.{◌≡◌}
use lib.ListN.{length}
use Rattle.rules.specs.TreeBlock.{op_of}
use Rattle.code_sets.specs.Bits.{has}
use Rattle.judge_rows.specs.Rows.{at}
use Rattle.judge_subtrees.specs.Entries.{Subtrees}
use Rattle.judge_nodes.proofs.ChildrenLaws.{Walks}
use Rattle.judge_nodes.proofs.Parent.list_rows.Given as goal

-- The invariant: the children before v are done, and the rows mean those.
abbrev pub invariant-loop-v : goal.invariant-loop-v
invariant-loop-v l =
    (l.from ≤ l.v) × (length l.rows ≡ 64) × Subtrees l.self.tree.now l.v l.end
    × Walks l.self.tree.now l.self.episode.now l.self.work.now (op_of l.operator) (has l.self.codes.bits) l.from l.end l.v (at l.rows)

abbrev pub decreases-loop-v : goal.decreases-loop-v
decreases-loop-v l = l.end - l.v
