-- Pairs of sets are pairs of their lists. Over any number of codes m.
use mathlib.Core.Path.{◌≡◌, refl, sym, ◌∙◌, ap, ap₂, subst}
use mathlib.Core.Logic.{⊎_elim, inl, inr}
use mathlib.Core.List.{List, [], ◌∷◌}
use mathlib.Core.Bool.{Bool, true, false, ◌&&◌, ◌||◌}
use Prim.Native.Nat.{ℕ, zero, suc, ◌<◌}
use native.Mathlib.Omega.{arith}
use lib.Dec.{ltb}
use lib.Bits.{bit_or}
use lib.ListN.{length, take, get_or, set, length-set}
use lib.Seq.{get_or-take, take-set-lt}
use Rattle.rules.specs.Words.{pick, each, mem, from}
use Rattle.rules.specs.Mining.{as_one}
use Rattle.rules.proofs.BoolLaws.{or_cases, and_drop}
use Rattle.rules.proofs.ListLaws.{Has, from_has, keep_both, keep_ext}
use Rattle.code_sets.specs.Bits.{has, listed}
use Rattle.code_sets.proofs.BitLaws.{has_or}
use Rattle.code_sets.proofs.ListedLaws.{mem_listed, listed_none}
use Rattle.cut_pairs.specs.Pairs.{earlier, pair_at, pair_all}
use Rattle.cut_pairs.proofs.PairLaws.{has_at, has_set}

-- all places are below n
abbrev pub Below : List ℕ → ℕ → Type 0
Below is n = (i : ℕ) → Has i is → i < n

earlier_below : (i j n : ℕ) → i < n → j < n → earlier i j < n
earlier_below i j n a b = by (ltb i j)
  where
    by : (t : Bool) → pick t i j < n
    by true = a
    by false = b

-- the pairs among the first n, where all places are among them
pub pairs_front : (n : ℕ) (is js : List ℕ) (sets : List ℕ) → Below is n → Below js n → take n (pair_all 0 bit_or is js sets) ≡ pair_all 0 bit_or is js (take n sets)
pairs_front n [] js sets a b = refl
pairs_front n (i ∷ is) [] sets a b = refl
pairs_front n (i ∷ is) (j ∷ js) sets a b =
    let e = earlier i j in
    pairs_front n is js (pair_at 0 bit_or i j sets) (λ x m. a x (inr m)) (λ x m. b x (inr m))
    ∙ ap (pair_all 0 bit_or is js)
    (take-set-lt n sets e (bit_or (get_or sets i 0) (get_or sets j 0)) (earlier_below i j n (a i (inl refl)) (b j (inl refl)))
    ∙ ap₂ (λ (x y : ℕ). set (take n sets) e (bit_or x y)) (sym (get_or-take n sets i 0 (a i (inl refl)))) (sym (get_or-take n sets j 0 (b j (inl refl)))))

module _ (m kept : ℕ) where
  -- all of its codes are among those kept
  abbrev pub Kept : ℕ → Type 0
  Kept x = (c : ℕ) → c < m → has x c ≡ true → has kept c ≡ true

  union_kept : (x y : ℕ) → Kept x → Kept y → Kept (bit_or x y)
  union_kept x y p q c l h = ⊎_elim (p c l) (q c l) (or_cases (has x c) (has y c) (sym (has_or x y c) ∙ h))

  -- THEOREM: two sets of kept codes as one, as lists
  pub union_listed : (x y : ℕ) → Kept x → Kept y → listed m (bit_or x y) ≡ as_one (listed m kept) (listed m x) (listed m y)
  unfolding listed
  union_listed x y p q =
      sym
      (keep_both (λ c. mem c (listed m x) || mem c (listed m y)) (has kept) (from 0 m)
      ∙ keep_ext (λ c. has kept c && (mem c (listed m x) || mem c (listed m y))) (has (bit_or x y)) (from 0 m)
      (λ c i. let l = from_has m 0 c i in
      let low : c < m = omega arith in
      ap₂ (λ (a b : Bool). has kept c && (a || b)) (mem_listed m x c low) (mem_listed m y c low)
      ∙ ap (λ (b : Bool). has kept c && b) (sym (has_or x y c)) ∙ and_drop (has kept c) (has (bit_or x y) c) (union_kept x y p q c low)))

  pub at_listed : (sets : List ℕ) (i : ℕ) → get_or (each (listed m) sets) i [] ≡ listed m (get_or sets i 0)
  at_listed [] i = sym (listed_none m 0 refl)
  at_listed (x ∷ sets) zero = refl
  at_listed (x ∷ sets) (suc i) = at_listed sets i

  set_listed : (sets : List ℕ) (e v : ℕ) → each (listed m) (set sets e v) ≡ set (each (listed m) sets) e (listed m v)
  set_listed [] e v = refl
  set_listed (x ∷ sets) zero v = refl
  set_listed (x ∷ sets) (suc e) v = ap (◌∷◌ (listed m x)) (set_listed sets e v)

  -- THEOREM: pairs of sets of kept codes are pairs of their lists
  pub pairs_listed : (is js : List ℕ) (sets : List ℕ) → Below is (length sets) → Below js (length sets) → ((x : ℕ) → Has x sets → Kept x) →
      each (listed m) (pair_all 0 bit_or is js sets) ≡ pair_all [] (as_one (listed m kept)) is js (each (listed m) sets)
  pairs_listed [] js sets a b k = refl
  pairs_listed (i ∷ is) [] sets a b k = refl
  pairs_listed (i ∷ is) (j ∷ js) sets a b k =
      let x = get_or sets i 0 in
      let y = get_or sets j 0 in
      let e = earlier i j in
      let kx = k x (has_at 0 sets i (a i (inl refl))) in
      let ky = k y (has_at 0 sets j (b j (inl refl))) in
      let size = length-set sets e (bit_or x y) in
      pairs_listed is js (pair_at 0 bit_or i j sets) (λ z n. subst (λ (s : ℕ). z < s) (sym size) (a z (inr n))) (λ z n. subst (λ (s : ℕ). z < s) (sym size) (b z (inr n)))
      (λ z n. ⊎_elim (λ h. subst Kept (sym h) (union_kept x y kx ky)) (k z) (has_set sets e (bit_or x y) z n))
      ∙ ap (pair_all [] (as_one (listed m kept)) is js)
      (set_listed sets e (bit_or x y)
      ∙ ap (set (each (listed m) sets) e) (union_listed x y kx ky ∙ ap₂ (as_one (listed m kept)) (sym (at_listed sets i)) (sym (at_listed sets j))))
