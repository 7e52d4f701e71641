-- `x & (x - 1)` drops the lowest place, which `trailing_zeros` names.
use Prim.Native.Nat.{ℕ, zero, suc, ◌-◌, ◌*◌, ◌/◌, ◌%◌, ◌^◌, ◌<◌}
use native.Mathlib.Nat.{pow-suc}
use native.Mathlib.Omega.{arith}
use mathlib.Core.Path.{◌≡◌, refl, sym, ap, ap₂, ◌∙◌, subst}
use mathlib.Core.Logic.{◌⊎◌, inl, inr, ⊎_elim}
use mathlib.Core.Bool.{Bool, true, false, ◌||◌, ◌&&◌, not}
use lib.Dec.{eqb, eqb-suc-suc, eqb-suc-zero}
use borrow.Author.Tests.{eq-eqb, ne_eqb, eqb-true}
use lib.Bits.{bit_and}
use lib.Count.{count_trailing_zeros, under}
use lib.Arith.{lt-one}
use Rattle.code_sets.specs.Bits.{has, any_below}
use Rattle.code_sets.proofs.BitLaws.{has_and, has_low, has_step, digit_mod}
use Rattle.code_sets.proofs.AnyLaws.{any_some, any_here}
use Rattle.rules.proofs.BoolLaws.{and_both, and_cases, or_cases, or_right, bool_ext}

and_same : (a b : Bool) → a ≡ b → (a && b) ≡ (a && true)
and_same true b e = sym e
and_same false b e = refl

-- the lowest place is there
pub lowest_is : (w x : ℕ) → 0 < x → x < 2 ^ w → (count_trailing_zeros w x < w) × (has x (count_trailing_zeros w x) ≡ true)
unfolding count_trailing_zeros
lowest_is zero x p h = absurd (omega (arith, lt-one h))
lowest_is (suc w) x p h =
    let g : x < 2 ^ w * 2 = rw (← pow-suc 2 w) h in
    ⊎_elim
    (λ (e : x % 2 ≡ 0). let ih = lowest_is w (x / 2) (omega arith) (omega arith) in
    rw e (omega (arith, ih.0), has_step x (count_trailing_zeros w (x / 2)) ∙ ih.1))
    (λ (e : x % 2 ≡ 1). rw e (omega arith, has_low x ∙ eq-eqb (x % 2) 1 e))
    (digit_mod x)

pub has_lowest : (w x i : ℕ) → 0 < x → x < 2 ^ w → has (bit_and x (x - 1)) i ≡ (has x i && not (eqb i (count_trailing_zeros w x)))
unfolding count_trailing_zeros
has_lowest zero x i p h = absurd (omega (arith, lt-one h))
has_lowest (suc w) x zero p h =
    has_and x (x - 1) 0 ∙ ⊎_elim
    (λ (e : x % 2 ≡ 0). let z : has x 0 ≡ false = has_low x ∙ ne_eqb (x % 2) 1 (λ q. omega arith) in
    ap (λ (t : Bool). t && has (x - 1) 0) z ∙ sym (ap (λ (t : Bool). t && not (eqb 0 (under (x % 2) (count_trailing_zeros w (x / 2))))) z))
    (λ (e : x % 2 ≡ 1). rw e (ap (λ (t : Bool). has x 0 && t) (has_low (x - 1) ∙ ne_eqb ((x - 1) % 2) 1 (λ q. omega arith))))
    (digit_mod x)
has_lowest (suc w) x (suc i) p h =
    let g : x < 2 ^ w * 2 = rw (← pow-suc 2 w) h in
    has_and x (x - 1) (suc i) ∙ ⊎_elim
    (λ (e : x % 2 ≡ 0). let d : (x - 1) / 2 ≡ x / 2 - 1 = omega arith in
    rw e (ap₂ ◌&&◌ (has_step x i) (has_step (x - 1) i ∙ ap (λ (y : ℕ). has y i) d)
    ∙ sym (has_and (x / 2) (x / 2 - 1) i) ∙ has_lowest w (x / 2) i (omega arith) (omega arith)
    ∙ ap₂ (λ (a b : Bool). a && not b) (sym (has_step x i)) (sym (eqb-suc-suc i (count_trailing_zeros w (x / 2))))))
    (λ (e : x % 2 ≡ 1). let d : (x - 1) / 2 ≡ x / 2 = omega arith in
    rw e (and_same (has x (suc i)) (has (x - 1) (suc i)) (has_step x i ∙ sym (has_step (x - 1) i ∙ ap (λ (y : ℕ). has y i) d))
    ∙ ap (λ (t : Bool). has x (suc i) && not t) (sym (eqb-suc-zero i))))
    (digit_mod x)

-- the place k of a union, and the others
not_eqb : (a b : ℕ) → (a ≡ b → ⊥) → not (eqb a b) ≡ true
not_eqb a b h = ap not (ne_eqb a b h)

pub any_apart : (n k : ℕ) (p q : ℕ → Bool) → k < n → ((m : ℕ) → q m ≡ (p m && not (eqb m k))) → any_below n p ≡ (p k || any_below n q)
any_apart n k p q l e = bool_ext (any_below n p) (p k || any_below n q)
    (λ h. let s = any_some n p h in ⊎_elim
    (λ (y : eqb s.0 k ≡ true). ap (λ (t : Bool). t || any_below n q) (subst (λ (m : ℕ). p m ≡ true) (eqb-true s.0 k y) s.2))
    (λ (y : eqb s.0 k ≡ false). or_right (p k) (any_below n q) (any_here n q s.0 s.1 (e s.0 ∙ and_both (p s.0) (not (eqb s.0 k)) s.2 (ap not y))))
    (either (eqb s.0 k)))
    (λ h. ⊎_elim (λ y. any_here n p k l y)
    (λ y. let s = any_some n q y in any_here n p s.0 s.1 (and_cases (p s.0) (not (eqb s.0 k)) (sym (e s.0) ∙ s.2)).0)
    (or_cases (p k) (any_below n q) h))
  where
    either : (b : Bool) → (b ≡ true) ⊎ (b ≡ false)
    either true = inl refl
    either false = inr refl
