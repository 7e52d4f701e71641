use mathlib.Core.Path.{◌≡◌}
use lib.ListN.{length}
use Rattle.mine_places.specs.Places.{episodes_of}
use Rattle.rules.specs.TreeBlock.{op_of}
use Rattle.rules.specs.Calls.{code_count}
use Rattle.code_sets.specs.Bits.{listed}
use Rattle.mine_nodes.proofs.NodeLaws.{Growing}
use Rattle.mine_nodes.proofs.+mine_node.Given as goal

abbrev pub invariant-loop-i : goal.invariant-loop-i
invariant-loop-i l = Growing (episodes_of l.w l.log l.places) l.v (op_of l.operator) l.plan.n l.plan.sets l.at l.initial.tree l.next l.tree l.i × (length l.tree ≡ 512)

abbrev pub decreases-mine_node : goal.decreases-mine_node
decreases-mine_node l = length (listed code_count l.v.keep.bits)
