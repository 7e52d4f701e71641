-- The turns of writing a number in decimal.
use mathlib.Core.Path.{◌≡◌, refl, subst}
use mathlib.Core.List.{List, [], ◌∷◌}
use Prim.Native.Nat.{ℕ, zero, suc, ◌+◌, ◌-◌, ◌/◌, ◌%◌, ◌≤◌, ◌<◌}
use native.Mathlib.Omega.{arith}
use lib.ListN.{length}
use borrow.Author.Tests.{lt-ltb, le-ltb}
use Rattle.rules.specs.Listing.{decimal}
use Rattle.text_writing.specs.Writing.{Wrote}
use Rattle.text_writing.proofs.WroteLaws.{wrote_nothing, wrote_then, wrote_most}

pub number_none : (old : List ℕ) (at d n : ℕ) → d ≡ 0 → Wrote d old at (decimal d n) old at
unfolding decimal
number_none old at d n e = rw e (wrote_nothing old at)

module _ {old new : List ℕ} {at r : ℕ} where
  pub number_last : (d n : ℕ) → (d ≡ 0 → ⊥) → n < 10 → at + d ≤ length old → Wrote 1 old at ((48 + n % 10) ∷ []) new r → Wrote d old at (decimal d n) new r
  unfolding decimal
  number_last zero n z h room w = absurd (z refl)
  number_last (suc d) n z h room w = rw (lt-ltb n 10 h) (wrote_most w (omega arith) (suc d) (omega arith))

  pub number_more : {mid : List ℕ} {k : ℕ} (d n : ℕ) → (d ≡ 0 → ⊥) → 10 ≤ n → at + d ≤ length old →
      Wrote (d - 1) old at (decimal (d - 1) (n / 10)) mid k → Wrote 1 mid k ((48 + n % 10) ∷ []) new r → Wrote d old at (decimal d n) new r
  unfolding decimal
  number_more zero n z h room v w = absurd (z refl)
  number_more {mid} {k} (suc d) n z h room v w =
      let same : suc d - 1 ≡ d = omega arith in
      let v' = subst (λ (p : ℕ). Wrote p old at (decimal p (n / 10)) mid k) same v in
      rw (le-ltb n 10 h) (wrote_most (wrote_then v' (omega arith) w) (omega arith) (suc d) (omega arith))
