use Prim.Native.Nat.{◌<◌}
use lib.ListN.{length}
use Rattle.mine_places.proofs.CodesLaws.{codes_left}
use Rattle.mine_gather.proofs.slot_of.Given as goal

abbrev pub invariant-loop-c : goal.invariant-loop-c
invariant-loop-c l = l.number < 65536

abbrev pub decreases-loop-c : goal.decreases-loop-c
decreases-loop-c l = length (codes_left l.c-iterator)
