-- Membership of a number read as a set of places, and what counts and finds.
use Rattle.std.specs.Prelude.{ℕ, zero, suc, ◌+◌, ◌/◌, ◌%◌, ◌^◌, List, Bool, false, cond, ◌||◌, eqb}
use Rattle.rules.specs.Words.{keep, from}

-- place i of x is set
unfoldable pub has : ℕ → ℕ → Bool
has x i = eqb (x / 2 ^ i % 2) 1

-- some place below n has p
unfoldable pub any_below : ℕ → (ℕ → Bool) → Bool
any_below zero p = false
any_below (suc n) p = any_below n p || p n

-- how many of the places 0 .. n - 1 have p
unfoldable pub count : ℕ → (ℕ → Bool) → ℕ
count zero p = zero
count (suc n) p = cond (p zero) 1 0 + count n (λ i. p (suc i))

-- the least place below n that has p, or n
unfoldable pub least : ℕ → (ℕ → Bool) → ℕ
least zero p = zero
least (suc n) p = cond (p zero) zero (suc (least n (λ i. p (suc i))))

-- the places of x below m, in ascending order: a set of codes as the rules have it
unfoldable pub listed : ℕ → ℕ → List ℕ
listed m x = keep (has x) (from 0 m)
