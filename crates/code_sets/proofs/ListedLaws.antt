-- The codes of a set as a list, over any number of codes m.
use mathlib.Core.Path.{◌≡◌, refl, sym, ◌∙◌, ap, ap₂, fun_ext, subst}
use mathlib.Core.Logic.{inl, ⊎_elim}
use mathlib.Core.List.{List, [], ◌∷◌}
use mathlib.Core.Bool.{Bool, true, false, cond}
use Prim.Native.Nat.{ℕ, zero, suc, ◌+◌, ◌^◌, ◌≤◌, ◌<◌}
use native.Mathlib.Nat.{add-zero, zero-add, suc-add, add-suc}
use native.Mathlib.Omega.{arith}
use lib.ListN.{length}
use Rattle.rules.specs.Words.{push, keep, mem, from}
use Rattle.rules.proofs.BoolLaws.{bool_ext, not_both_lem}
use Rattle.rules.proofs.ListLaws.{Has, has_keep, keep_has, has_from, from_has, keep_ext, keep_none, has_mem, mem_has}
use Rattle.code_sets.specs.Bits.{has, count, listed}
use Rattle.code_sets.proofs.BitLaws.{has_zero, has_high, lt_or_le}

module _ (m : ℕ) where
  pub has_listed : (x c : ℕ) → Has c (listed m x) → (c < m) × (has x c ≡ true)
  unfolding listed
  has_listed x c h = let k = has_keep (has x) c (from 0 m) h in let l = from_has m 0 c k.0 in (omega arith, k.1)

  pub listed_has : (x c : ℕ) → c < m → has x c ≡ true → Has c (listed m x)
  unfolding listed
  listed_has x c l h = keep_has (has x) c (from 0 m) (has_from m 0 c (omega arith) (omega arith)) h

  -- two sets with the same codes below m
  pub listed_ext : (x y : ℕ) → ((c : ℕ) → c < m → has x c ≡ has y c) → listed m x ≡ listed m y
  unfolding listed
  listed_ext x y h = keep_ext (has x) (has y) (from 0 m) (λ c i. let l = from_has m 0 c i in h c (omega arith))

  pub mem_listed : (x c : ℕ) → c < m → mem c (listed m x) ≡ has x c
  mem_listed x c l =
      bool_ext (mem c (listed m x)) (has x c) (λ h. (has_listed x c (mem_has c (listed m x) h)).1) (λ h. has_mem c (listed m x) (listed_has x c l h))

  -- of a set that fits, the codes past m too
  pub mem_fits : (x : ℕ) → x < 2 ^ m → (c : ℕ) → mem c (listed m x) ≡ has x c
  mem_fits x l c =
      ⊎_elim (mem_listed x c)
      (λ (h : m ≤ c). bool_ext (mem c (listed m x)) (has x c) (λ e. absurd (omega (arith, (has_listed x c (mem_has c (listed m x) e)).0))) (λ e. not_both_lem (has x c) e (has_high m x c l h)))
      (lt_or_le c m)

  -- a code that heads what is left of a walk
  pub code_below : (x c : ℕ) (later : List ℕ) → listed m x ≡ c ∷ later → c < m
  code_below x c later e = (has_listed x c (subst (Has c) (sym e) (inl refl))).0

-- the list of no code
pub listed_none : (m x : ℕ) → x ≡ 0 → listed m x ≡ []
unfolding listed
listed_none m x e = keep_none (has x) (from 0 m) (λ c i. ap (λ (y : ℕ). has y c) e ∙ has_zero c)

-- a list is as long as the set has codes
keep_count : (n i : ℕ) (p : ℕ → Bool) → length (keep p (from i n)) ≡ count n (λ j. p (i + j))
unfolding count
keep_count zero i p = refl
keep_count (suc n) i p =
    pushed (p i) i (keep p (from (suc i) n))
    ∙ ap₂ (λ (a b : ℕ). a + b) (ap (λ (k : ℕ). cond (p k) 1 0) (sym (add-zero i)))
    (keep_count n (suc i) p ∙ ap (count n) (fun_ext (λ (j : ℕ). ap p (suc-add i j ∙ sym (add-suc i j)))))
  where
    pushed : (b : Bool) (x : ℕ) (xs : List ℕ) → length (push b x xs) ≡ cond b 1 0 + length xs
    pushed true x xs = omega arith
    pushed false x xs = omega arith

pub listed_count : (m x : ℕ) → length (listed m x) ≡ count m (has x)
unfolding listed
listed_count m x = keep_count m 0 (has x) ∙ ap (count m) (fun_ext (λ (j : ℕ). ap (has x) (zero-add j)))
