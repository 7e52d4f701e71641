use mathlib.Core.Path.{◌≡◌}
use mathlib.Core.Bool.{true}
use Prim.Native.Nat.{◌*◌}
use lib.ListN.{drop}
use Rattle.mine_places.specs.Places.{codes_of}
use Rattle.mine_gather.proofs.same_codes.Given as goal

abbrev pub invariant-loop-i : goal.invariant-loop-i
invariant-loop-i l = l.same ≡ true → codes_of l.w (drop (l.i * l.w) l.a) ≡ codes_of l.w (drop (l.i * l.w) l.b) → codes_of l.w l.a ≡ codes_of l.w l.b
