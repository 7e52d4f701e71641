use mathlib.Core.Path.{◌≡◌}
use mathlib.Core.Bool.{◌||◌, ◌&&◌}
use Prim.Native.Nat.{ℕ, ◌<◌}
use lib.ListN.{length}
use lib.Dec.{ltb}
use Rattle.rules.specs.Words.{mem}
use Rattle.rules.specs.Calls.{code_count}
use Rattle.code_sets.specs.Bits.{has}
use Rattle.mine_places.specs.Places.{codes_of, All}
use Rattle.mine_places.proofs.CodesLaws.{codes_left}
use Rattle.mine_root.proofs.met_codes.Given as goal

abbrev pub invariant-loop-c : goal.invariant-loop-c
invariant-loop-c l = All (λ c. c < code_count) (codes_left l.c-iterator)
    × ((j : ℕ) → (has l.initial.k.bits j || (ltb j code_count && mem j (codes_of l.w l.events))) ≡ (has l.k.bits j || mem j (codes_left l.c-iterator)))

abbrev pub decreases-loop-c : goal.decreases-loop-c
decreases-loop-c l = length (codes_left l.c-iterator)
