use mathlib.Core.Path.{◌≡◌}
use Prim.Native.Nat.{◌<◌}
use lib.ListN.{length}
use Rattle.rules.specs.Calls.{code_count}
use Rattle.mine_places.specs.Places.{codes_of, All}
use Rattle.mine_places.proofs.CodesLaws.{codes_left}
use Rattle.mine_missed.proofs.WalkLaws.{missed_from}
use Rattle.mine_missed.proofs.missed_codes.Given as goal

abbrev pub invariant-loop-c : goal.invariant-loop-c
invariant-loop-c l = All (λ c. c < code_count) (codes_left l.c-iterator)
    × (missed_from l.sets l.keep.bits l.cuts.bits l.initial.m l.initial.seen.bits (codes_of l.w l.events) ≡ missed_from l.sets l.keep.bits l.cuts.bits l.m l.seen.bits (codes_left l.c-iterator))

abbrev pub decreases-loop-c : goal.decreases-loop-c
decreases-loop-c l = length (codes_left l.c-iterator)
