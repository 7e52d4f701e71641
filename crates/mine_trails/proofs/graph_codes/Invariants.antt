use mathlib.Core.Path.{◌≡◌}
use mathlib.Core.List.{[], ◌∷◌}
use Prim.Native.Nat.{◌<◌}
use lib.ListN.{length}
use Rattle.rules.specs.Calls.{code_count}
use Rattle.code_sets.specs.Bits.{has}
use Rattle.graph_rows.specs.Edges.{meant}
use Rattle.mine_places.specs.Places.{codes_of, All}
use Rattle.mine_places.proofs.CodesLaws.{codes_left}
use Rattle.mine_views.specs.Sublogs.{walk, sight}
use Rattle.mine_trails.specs.Growing.{with_pieces, Coded, trail, trailed}
use Rattle.mine_trails.proofs.graph_codes.Given as goal

abbrev pub invariant-loop-c : goal.invariant-loop-c
invariant-loop-c l = (with_pieces (sight l.v) (meant l.initial.h l.v.keep.bits) (codes_of l.w l.events ∷ []) ≡ trailed (trail l.h l.last) l.v.keep.bits (walk (has l.v.keep.bits) (has l.v.breaks.bits) (codes_left l.c-iterator)))
    × All (λ c. c < code_count) (codes_left l.c-iterator)
    × Coded l.last

abbrev pub decreases-loop-c : goal.decreases-loop-c
decreases-loop-c l = length (codes_left l.c-iterator)
