use Rattle.std.proofs.Common.{◌+◌, ◌≤◌, ◌-◌, ◌*◌, Option}
use Rattle.rules.specs.Calls.{entry_count}
use Rattle.tree_check.specs.Checks.{ListSays}
use Rattle.tree_entries.specs.declared.Met.{Met}
use Rattle.tree_check.proofs.+list_node.Given as goal

abbrev pub decreases-list : goal.decreases-list
decreases-list l = 2 * (entry_count - l.at) + 1

abbrev pub decreases-node : goal.decreases-node
decreases-node l = 2 * (entry_count - l.at)

-- what the whole list says follows from what its rest says; each node of the rest has an entry before the end
abbrev pub invariant-list-loop-done : goal.invariant-list-loop-done
invariant-list-loop-done l =
    (l.at ≤ l.met.next) × (l.met.next + (l.count - l.done) ≤ l.end)
    × ((r : Option Met) → ListSays l.tree l.met.next (l.count - l.done) l.end l.met.seen r → ListSays l.tree l.at l.count l.end l.fn.seen r)
