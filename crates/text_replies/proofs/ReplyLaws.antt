-- The lines of a refusal and of a verdict, from the writes of their pieces.
use mathlib.Core.Path.{◌≡◌}
use mathlib.Core.List.{List, [], ◌∷◌}
use mathlib.Core.Bool.{Bool, true, false}
use Prim.Native.Nat.{ℕ, ◌+◌, ◌≤◌}
use native.Mathlib.Omega.{arith}
use lib.ListN.{length}
use Rattle.rules.specs.Listing.{decimal, refusal_line, verdict_line}
use Rattle.text_writing.specs.Writing.{Wrote}
use Rattle.text_writing.proofs.WroteLaws.{wrote_then, wrote_most}

module _ {old new : List ℕ} {at r : ℕ} where
  pub refusal_line_lem : {o1 o2 o3 o4 : List ℕ} {p1 p2 p3 p4 : ℕ} (number place : ℕ) → at + 21 ≤ length old →
      Wrote 8 old at (114 ∷ 101 ∷ 102 ∷ 117 ∷ 115 ∷ 101 ∷ 100 ∷ 32 ∷ []) o1 p1 → Wrote 3 o1 p1 (decimal 3 number) o2 p2 →
      Wrote 4 o2 p2 (32 ∷ 97 ∷ 116 ∷ 32 ∷ []) o3 p3 → Wrote 5 o3 p3 (decimal 5 place) o4 p4 → Wrote 1 o4 p4 (10 ∷ []) new r →
      Wrote 21 old at (refusal_line number place) new r
  unfolding refusal_line
  refusal_line_lem number place room a b c d f = wrote_then (wrote_then (wrote_then (wrote_then a (omega arith) b) (omega arith) c) (omega arith) d) (omega arith) f

  pub fits_line : {o1 : List ℕ} {p1 : ℕ} (n : ℕ) (b : Bool) → b ≡ true → at + 13 ≤ length old →
      Wrote 5 old at (decimal 5 n) o1 p1 → Wrote 6 o1 p1 (32 ∷ 102 ∷ 105 ∷ 116 ∷ 115 ∷ 10 ∷ []) new r → Wrote 13 old at (verdict_line n b) new r
  unfolding verdict_line
  fits_line n b e room a c = rw e (wrote_most (wrote_then a (omega arith) c) (omega arith) 13 (omega arith))

  pub misfit_line : {o1 : List ℕ} {p1 : ℕ} (n : ℕ) (b : Bool) → b ≡ false → at + 13 ≤ length old →
      Wrote 5 old at (decimal 5 n) o1 p1 → Wrote 8 o1 p1 (32 ∷ 109 ∷ 105 ∷ 115 ∷ 102 ∷ 105 ∷ 116 ∷ 10 ∷ []) new r → Wrote 13 old at (verdict_line n b) new r
  unfolding verdict_line
  misfit_line n b e room a c = rw e (wrote_then a (omega arith) c)
