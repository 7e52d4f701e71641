-- The laws of `any_below`: a loop's turn, and the two directions with "there is a place".
use Prim.Native.Nat.{ℕ, zero, suc, ◌+◌, ◌<◌}
use native.Mathlib.Numerals.{add-one}
use native.Mathlib.Omega.{arith}
use mathlib.Core.Path.{◌≡◌, refl, sym, ap, ap₂, ◌∙◌, subst}
use mathlib.Core.Logic.{◌⊎◌, inl, inr, ⊎_elim}
use mathlib.Core.Bool.{Bool, true, false, ◌||◌, false≢true}
use lib.Bits.{bit_or}
use Rattle.code_sets.specs.Bits.{has, any_below}
use Rattle.code_sets.proofs.BitLaws.{has_or}
use Rattle.rules.proofs.BoolLaws.{or_cases, or_right, or_off}

-- a turn at k
pub any_more : (k : ℕ) (p : ℕ → Bool) → any_below (k + 1) p ≡ (any_below k p || p k)
unfolding any_below
any_more k p = ap (λ (m : ℕ). any_below m p) (add-one k)

-- the turn adds the row t, which is what p says at k
pub any_add : (p : ℕ → Bool) (r t k j : ℕ) → has r j ≡ any_below k p → has t j ≡ p k → has (bit_or r t) j ≡ any_below (k + 1) p
any_add p r t k j h e = has_or r t j ∙ ap₂ ◌||◌ h e ∙ sym (any_more k p)

-- the turn adds nothing
pub any_skip : (p : ℕ → Bool) (r k j : ℕ) → has r j ≡ any_below k p → p k ≡ false → has r j ≡ any_below (k + 1) p
any_skip p r k j h e = h ∙ sym (or_off (any_below k p)) ∙ ap (λ (t : Bool). any_below k p || t) (sym e) ∙ sym (any_more k p)

-- `any_below` is "there is a place below n"
pub any_some : (n : ℕ) (p : ℕ → Bool) → any_below n p ≡ true → (k : ℕ) × (k < n) × (p k ≡ true)
unfolding any_below
any_some zero p e = absurd (false≢true e)
any_some (suc n) p e = ⊎_elim
    (λ h. let s = any_some n p h in (s.0, omega arith, s.2))
    (λ h. (n, omega arith, h))
    (or_cases (any_below n p) (p n) e)

pub lt_suc_cases : (n k : ℕ) → k < suc n → (k ≡ n) ⊎ (k < n)
lt_suc_cases zero zero l = inl refl
lt_suc_cases zero (suc k) l = absurd (omega arith)
lt_suc_cases (suc n) zero l = inr (omega arith)
lt_suc_cases (suc n) (suc k) l = ⊎_elim (λ e. inl (ap suc e)) (λ h. inr (omega arith)) (lt_suc_cases n k (omega arith))

pub any_here : (n : ℕ) (p : ℕ → Bool) (k : ℕ) → k < n → p k ≡ true → any_below n p ≡ true
unfolding any_below
any_here zero p k l e = absurd (omega arith)
any_here (suc n) p k l e = ⊎_elim
    (λ q. or_right (any_below n p) (p n) (subst (λ (m : ℕ). p m ≡ true) q e))
    (λ q. ap (λ (t : Bool). t || p n) (any_here n p k q e))
    (lt_suc_cases n k l)

pub any_none : (n : ℕ) (p : ℕ → Bool) → ((m : ℕ) → p m ≡ false) → any_below n p ≡ false
unfolding any_below
any_none zero p h = refl
any_none (suc n) p h = ap₂ ◌||◌ (any_none n p h) (h n)
