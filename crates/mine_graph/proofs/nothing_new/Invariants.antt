use lib.ListN.{length}
use Rattle.mine_places.specs.Places.{codes_of}
use Rattle.mine_places.proofs.CodesLaws.{codes_left}
use Rattle.mine_graph.proofs.QuietLaws.{Quiet}
use Rattle.mine_graph.proofs.nothing_new.Given as goal

abbrev pub invariant-loop-c : goal.invariant-loop-c
invariant-loop-c l = Quiet (codes_of l.w l.events) l.rows l.ends l.keep.bits l.watched.bits l.first.bits l.known.bits l.open.bits (codes_left l.c-iterator)

abbrev pub decreases-loop-c : goal.decreases-loop-c
decreases-loop-c l = length (codes_left l.c-iterator)
