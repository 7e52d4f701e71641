use Prim.Native.Nat.{ℕ}
use mathlib.Core.Path.{◌≡◌}
use mathlib.Core.Bool.{not, ◌&&◌}
use lib.Dec.{ltb}
use lib.ListN.{get_or}
use Rattle.code_sets.specs.Bits.{has}
use Rattle.cut_parts.specs.Sets.{meets}
use Rattle.cut_pairs.proofs.places_with.Given as goal

abbrev pub invariant-loop-k : goal.invariant-loop-k
invariant-loop-k l = (a : ℕ) → has l.places a ≡ (ltb a l.k && (meets l.codes (get_or l.part-items a 0) && not (meets l.others (get_or l.part-items a 0))))
