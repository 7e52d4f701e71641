-- The smallest code of a set heads its list. Over any number of codes m.
use mathlib.Core.Path.{◌≡◌, refl, sym, ◌∙◌, ap, ap₂}
use mathlib.Core.Logic.{◌⊎◌, inl, inr, ⊎_elim}
use mathlib.Core.List.{List, [], ◌∷◌, ◌++◌}
use mathlib.Core.Bool.{Bool, not, ◌&&◌}
use Prim.Native.Nat.{ℕ, suc, ◌+◌, ◌-◌, ◌^◌, ◌≤◌, ◌<◌}
use native.Mathlib.Nat.{zero-add}
use native.Mathlib.Omega.{arith}
use lib.Dec.{eqb, ltb}
use lib.Bits.{bit_and, bit_or}
use lib.Count.{count_trailing_zeros}
use borrow.Author.Tests.{eq-eqb, ne_eqb, lt-ltb, le-ltb}
use Rattle.rules.specs.Words.{pick, push, keep, from}
use Rattle.rules.specs.Mining.{head_of}
use Rattle.rules.proofs.BoolLaws.{or_left, or_right, or_cases}
use Rattle.rules.proofs.ListLaws.{Has, from_has, keep_all, keep_both, keep_ext, keep_none, keep_append}
use Rattle.rules.proofs.FilterLaws.{from_append}
use Rattle.rules.proofs.SmallestFirst.{Ascending, ascending_keep, ascending_from, head_has, head_smallest}
use Rattle.code_sets.specs.Bits.{has, least, listed}
use Rattle.code_sets.proofs.BitLaws.{has_or, trailing_least, lt_or_le}
use Rattle.code_sets.proofs.CountLaws.{least_has, least_below}
use Rattle.code_sets.proofs.LowestLaws.{lowest_is, has_lowest}
use Rattle.code_sets.proofs.ListedLaws.{has_listed, listed_has}

module _ (m x : ℕ) where
  pub head_least : least m (has x) < m → least m (has x) ≡ head_of (listed m x)
  unfolding listed
  head_least l =
      let c = least m (has x) in
      let n = m - suc c in
      let size : c + suc n ≡ m = omega arith in
      sym (ap head_of
      (ap (λ (k : ℕ). keep (has x) (from 0 k)) (sym size) ∙ ap (keep (has x)) (from_append c (suc n) 0 ∙ ap (λ (k : ℕ). from 0 c ++ from k (suc n)) (zero-add c))
      ∙ keep_append (has x) (from 0 c) (from c (suc n))
      ∙ ap₂ ◌++◌ (keep_none (has x) (from 0 c) (λ i h. let b = from_has c 0 i h in least_below m (has x) i (omega arith)))
      (ap (λ (b : Bool). push b c (keep (has x) (from (suc c) n))) (least_has m (has x) l))))

  pub head_none : m ≤ least m (has x) → 0 ≡ head_of (listed m x)
  unfolding listed
  head_none l = sym (ap head_of (keep_none (has x) (from 0 m) (λ i h. let b = from_has m 0 i h in least_below m (has x) i (omega arith))))

pub listed_ascending : (m x : ℕ) → Ascending (listed m x)
unfolding listed
listed_ascending m x = ascending_keep (has x) (from 0 m) (ascending_from m 0)

-- ---- the lowest place taken away

peel : (xs : List ℕ) (c : ℕ) → Has c xs → Ascending xs → xs ≡ head_of xs ∷ keep (λ i. not (eqb i (head_of xs))) xs
peel [] c m a = absurd m
peel (x ∷ xs) c m a =
    ap (◌∷◌ x)
    (sym
    (ap (λ (b : Bool). push (not b) x (keep (λ i. not (eqb i x)) xs)) (eq-eqb x x refl)
    ∙ keep_all (λ i. not (eqb i x)) xs (λ i k. let l = a.0 i k in ap not (ne_eqb i x (λ e. omega arith)))))

-- THEOREM: a set without its lowest place is its list without its head
pub listed_lowest : (m x : ℕ) → 0 < x → x < 2 ^ m → listed m x ≡ head_of (listed m x) ∷ listed m (bit_and x (x - 1))
unfolding listed
listed_lowest m x p l =
    let t = count_trailing_zeros m x in
    let k = lowest_is m x p l in
    let least_is = trailing_least m x in
    let e : t ≡ head_of (listed m x) = least_is ∙ head_least m x (omega (arith, k.0)) in
    peel (listed m x) t (listed_has m x t k.0 k.1) (listed_ascending m x)
    ∙ ap (◌∷◌ (head_of (listed m x)))
    (keep_both (λ i. not (eqb i (head_of (listed m x)))) (has x) (from 0 m)
    ∙ keep_ext (λ i. has x i && not (eqb i (head_of (listed m x)))) (has (bit_and x (x - 1))) (from 0 m)
    (λ i h. sym (has_lowest m x i p l ∙ ap (λ (c : ℕ). has x i && not (eqb i c)) e)))

-- a turn of a walk over the codes of a set
pub walk_turn : (m x c : ℕ) → (x ≡ 0 → ⊥) → x < 2 ^ m → c ≡ head_of (listed m x) → listed m x ≡ c ∷ listed m (bit_and x (x - 1))
walk_turn m x c n l e = rw e (listed_lowest m x (omega arith) l)

-- ---- of two sets

smaller_of : (c a b : ℕ) → c ≤ a → c ≤ b → (a ≤ c) ⊎ (b ≤ c) → c ≡ pick (ltb a b) a b
smaller_of c a b la lb h =
    ⊎_elim (λ (l : a < b). rw (lt-ltb a b l) (⊎_elim (λ (k : a ≤ c). omega arith) (λ (k : b ≤ c). omega arith) h))
    (λ (l : b ≤ a). rw (le-ltb a b l) (⊎_elim (λ (k : a ≤ c). omega arith) (λ (k : b ≤ c). omega arith) h))
    (lt_or_le a b)

-- THEOREM: the smallest code of two sets is the smaller one of theirs
pub head_union : (m x y i j : ℕ) → Has i (listed m x) → Has j (listed m y) →
    head_of (listed m (bit_or x y)) ≡ pick (ltb (head_of (listed m x)) (head_of (listed m y))) (head_of (listed m x)) (head_of (listed m y))
head_union m x y i j ix jy =
    let both = listed m (bit_or x y) in
    let a = head_of (listed m x) in
    let b = head_of (listed m y) in
    let left : (c : ℕ) → Has c (listed m x) → Has c both = λ c h. let k = has_listed m x c h in listed_has m (bit_or x y) c k.0 (has_or x y c ∙ or_left (has x c) (has y c) k.1) in
    let right : (c : ℕ) → Has c (listed m y) → Has c both = λ c h. let k = has_listed m y c h in listed_has m (bit_or x y) c k.0 (has_or x y c ∙ or_right (has x c) (has y c) k.1) in
    let up = listed_ascending m (bit_or x y) in
    let low_a = head_smallest both a up (left a (head_has (listed m x) i ix)) in
    let low_b = head_smallest both b up (right b (head_has (listed m y) j jy)) in
    let k = has_listed m (bit_or x y) (head_of both) (head_has both a (left a (head_has (listed m x) i ix))) in
    smaller_of (head_of both) a b low_a low_b
    (⊎_elim (λ h. inl (head_smallest (listed m x) (head_of both) (listed_ascending m x) (listed_has m x (head_of both) k.0 h)))
    (λ h. inr (head_smallest (listed m y) (head_of both) (listed_ascending m y) (listed_has m y (head_of both) k.0 h)))
    (or_cases (has x (head_of both)) (has y (head_of both)) (sym (has_or x y (head_of both)) ∙ k.1)))
