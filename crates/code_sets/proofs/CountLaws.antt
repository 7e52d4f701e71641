-- What `least` and `count` give a caller.
use Prim.Native.Nat.{ℕ, zero, suc, ◌+◌, ◌≤◌, ◌<◌}
use native.Mathlib.Omega.{arith}
use mathlib.Core.Path.{◌≡◌, refl, sym, ap}
use mathlib.Core.Bool.{Bool, true, false, cond, ◌||◌, false≢true}
use Rattle.code_sets.specs.Bits.{count, least}

pub least_le : (n : ℕ) (p : ℕ → Bool) → least n p ≤ n
unfolding least
least_le zero p = omega arith
least_le (suc n) p = go (p zero) (least_le n (λ i. p (suc i)))
  where
    go : (b : Bool) → least n (λ i. p (suc i)) ≤ n → cond b zero (suc (least n (λ i. p (suc i)))) ≤ suc n
    go true h = omega arith
    go false h = omega arith

-- where it is below n it has p
pub least_has : (n : ℕ) (p : ℕ → Bool) → least n p < n → p (least n p) ≡ true
unfolding least
least_has zero p h = absurd (omega arith)
least_has (suc n) p h = go (p zero) refl (least_has n (λ i. p (suc i))) h
  where
    go : (b : Bool) → p zero ≡ b → (least n (λ i. p (suc i)) < n → p (suc (least n (λ i. p (suc i)))) ≡ true)
        → cond b zero (suc (least n (λ i. p (suc i)))) < suc n → p (cond b zero (suc (least n (λ i. p (suc i))))) ≡ true
    go true e f h = e
    go false e f h = f (omega arith)

-- nothing below it has p
pub least_below : (n : ℕ) (p : ℕ → Bool) (i : ℕ) → i < least n p → p i ≡ false
unfolding least
least_below zero p i h = absurd (omega arith)
least_below (suc n) p i h = go (p zero) refl (least_below n (λ i. p (suc i))) i h
  where
    go : (b : Bool) → p zero ≡ b → ((i : ℕ) → i < least n (λ i. p (suc i)) → p (suc i) ≡ false) → (i : ℕ) → i < cond b zero (suc (least n (λ i. p (suc i)))) → p i ≡ false
    go true e f i h = absurd (omega arith)
    go false e f zero h = e
    go false e f (suc i) h = f i (omega arith)

-- sets with no code in common
pub count_apart : (n : ℕ) (p q : ℕ → Bool) → ((i : ℕ) → p i ≡ true → q i ≡ false) → count n (λ i. p i || q i) ≡ count n p + count n q
unfolding count
count_apart zero p q h = refl
count_apart (suc n) p q h = go (p zero) (q zero) (h zero) (count_apart n (λ i. p (suc i)) (λ i. q (suc i)) (λ i. h (suc i)))
  where
    go : (a b : Bool) → (a ≡ true → b ≡ false) → count n (λ i. p (suc i) || q (suc i)) ≡ count n (λ i. p (suc i)) + count n (λ i. q (suc i))
        → cond (a || b) 1 0 + count n (λ i. p (suc i) || q (suc i)) ≡ cond a 1 0 + count n (λ i. p (suc i)) + (cond b 1 0 + count n (λ i. q (suc i)))
    go true true f e = absurd (false≢true (sym (f refl)))
    go true false f e = omega arith
    go false true f e = omega arith
    go false false f e = omega arith

-- a set with a code is not empty
pub count_pos : (n : ℕ) (p : ℕ → Bool) (i : ℕ) → i < n → p i ≡ true → 0 < count n p
unfolding count
count_pos zero p i l e = absurd (omega arith)
count_pos (suc n) p zero l e = let f : cond (p zero) 1 0 + count n (λ i. p (suc i)) ≡ 1 + count n (λ i. p (suc i)) = ap (λ (b : Bool). cond b 1 0 + count n (λ i. p (suc i))) e in omega arith
count_pos (suc n) p (suc i) l e = omega (arith, count_pos n (λ i. p (suc i)) i (omega arith) e)
