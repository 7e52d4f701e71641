-- Lists without repetition, and lists of parts without a common code.
use mathlib.Core.Path.{◌≡◌, refl, sym, ◌∙◌, ap, subst}
use mathlib.Core.Logic.{◌⊎◌, inl, inr, ⊎_elim}
use mathlib.Core.List.{List, [], ◌∷◌, ◌++◌}
use mathlib.Core.Bool.{Bool, true, false, not}
use Prim.Native.Nat.{ℕ, zero, suc, ◌≤◌}
use native.Mathlib.Omega.{arith}
use lib.ListN.{length}
use lib.Dec.{eqb}
use borrow.Author.Tests.{eqb-true, eq-eqb, not-true}
use Rattle.rules.specs.Words.{push, keep, flat, from}
pub use Rattle.rules.specs.WellFormed.{Distinct}
use Rattle.rules.proofs.BoolLaws.{bool_cases, not_both_lem}
use Rattle.rules.proofs.ListLaws.{Has, has_keep, has_append_left, has_append_right, has_append_cases, flat_has, has_flat, flat_append, from_has}

distinct_push : (b : Bool) (x : ℕ) (u : List ℕ) → (Has x u → ⊥) → Distinct u → Distinct (push b x u)
distinct_push true x u h d = (h, d)
distinct_push false x u h d = d

pub distinct_keep : (p : ℕ → Bool) (xs : List ℕ) → Distinct xs → Distinct (keep p xs)
distinct_keep p [] d = tt
distinct_keep p (x ∷ xs) d = distinct_push (p x) x (keep p xs) (λ m. d.0 (has_keep p x xs m).0) (distinct_keep p xs d.1)

pub distinct_from : (n i : ℕ) → Distinct (from i n)
distinct_from zero i = tt
distinct_from (suc n) i = (λ m. let h = (from_has n (suc i) i m).0 in omega arith, distinct_from n (suc i))

pub distinct_append : (xs ys : List ℕ) → Distinct xs → Distinct ys → ((c : ℕ) → Has c xs → Has c ys → ⊥) → Distinct (xs ++ ys)
distinct_append [] ys d e h = e
distinct_append (x ∷ xs) ys d e h =
    ((λ m. ⊎_elim d.0 (h x (inl refl)) (has_append_cases x xs ys m)), distinct_append xs ys d.1 e (λ c m. h c (inr m)))

-- a list without one of its elements
module _ {A : Type 0} where
  pub remove : (x : A) (ys : List A) → Has x ys → (zs : List A) × (length ys ≡ suc (length zs)) × ((c : A) → Has c zs → Has c ys) × ((c : A) → Has c ys → (c ≡ x) ⊎ Has c zs)
  remove x [] m = absurd m
  remove x (y ∷ ys) (inl e) = (ys, refl, (λ c m. inr m), λ c m. ⊎_elim (λ k. inl (k ∙ sym e)) inr m)
  remove x (y ∷ ys) (inr m) =
      let r = remove x ys m in
      (y ∷ r.0, ap suc r.1, (λ c k. ⊎_elim inl (λ j. inr (r.2 c j)) k), λ c k. ⊎_elim (λ j. inr (inl j)) (λ j. ⊎_elim inl (λ q. inr (inr q)) (r.3 c j)) k)

-- a list without repetition is no longer than one that has all of it
pub distinct_le : (xs ys : List ℕ) → Distinct xs → ((c : ℕ) → Has c xs → Has c ys) → length xs ≤ length ys
distinct_le [] ys d h = omega arith
distinct_le (x ∷ xs) ys d h =
    let r = remove x ys (h x (inl refl)) in
    let ih = distinct_le xs r.0 d.1 (λ c m. ⊎_elim (λ e. absurd (d.0 (subst (λ (y : ℕ). Has y xs) e m))) (λ k. k) (r.3 c (h c (inr m)))) in
    let e = r.1 in
    omega arith

-- how often a code stands in a list
abbrev pub count_of : ℕ → List ℕ → ℕ
count_of c xs = length (keep (eqb c) xs)

pub count_none : (c : ℕ) (xs : List ℕ) → (Has c xs → ⊥) → count_of c xs ≡ 0
count_none c [] n = refl
count_none c (x ∷ xs) n =
    ⊎_elim (λ (e : eqb c x ≡ true). absurd (n (inl (eqb-true c x e)))) (λ (e : eqb c x ≡ false). rw e (count_none c xs (λ m. n (inr m)))) (bool_cases (eqb c x))

pub count_one : (c : ℕ) (xs : List ℕ) → Distinct xs → Has c xs → count_of c xs ≡ 1
count_one c [] d m = absurd m
count_one c (x ∷ xs) d (inl e) = rw (eq-eqb c x e) (ap suc (count_none c xs (λ m. d.0 (subst (λ (y : ℕ). Has y xs) e m))))
count_one c (x ∷ xs) d (inr m) =
    ⊎_elim (λ (e : eqb c x ≡ true). absurd (d.0 (subst (λ (y : ℕ). Has y xs) (eqb-true c x e) m))) (λ (e : eqb c x ≡ false). rw e (count_one c xs d.1 m)) (bool_cases (eqb c x))

-- no code stands in two parts
abbrev pub Apart : List (List ℕ) → Type 0
Apart [] = Unit {0}
Apart (p ∷ ps) = ((c : ℕ) → Has c p → Has c (flat ps) → ⊥) × Apart ps

pub apart_unique : (gs : List (List ℕ)) → Apart gs → (g h : List ℕ) (c : ℕ) → Has g gs → Has h gs → Has c g → Has c h → g ≡ h
apart_unique [] a g h c i j m n = absurd i
apart_unique (x ∷ gs) a g h c (inl e) (inl f) m n = e ∙ sym f
apart_unique (x ∷ gs) a g h c (inl e) (inr j) m n = absurd (a.0 c (subst (Has c) e m) (flat_has c h gs j n))
apart_unique (x ∷ gs) a g h c (inr i) (inl f) m n = absurd (a.0 c (subst (Has c) f n) (flat_has c g gs i m))
apart_unique (x ∷ gs) a g h c (inr i) (inr j) m n = apart_unique gs a.1 g h c i j m n

pub flat_keep : (p : List ℕ → Bool) (gs : List (List ℕ)) (c : ℕ) → Has c (flat (keep p gs)) → Has c (flat gs)
flat_keep p gs c m = let k = has_flat c (keep p gs) m in flat_has c k.0 gs (has_keep p k.0 gs k.1).0 k.2

apart_push : (b : Bool) (g : List ℕ) (u : List (List ℕ)) → ((c : ℕ) → Has c g → Has c (flat u) → ⊥) → Apart u → Apart (push b g u)
apart_push true g u h a = (h, a)
apart_push false g u h a = a

pub apart_keep : (p : List ℕ → Bool) (gs : List (List ℕ)) → Apart gs → Apart (keep p gs)
apart_keep p [] a = tt
apart_keep p (g ∷ gs) a = apart_push (p g) g (keep p gs) (λ c m n. a.0 c m (flat_keep p gs c n)) (apart_keep p gs a.1)

-- those that pass a test and those that pass one that excludes it have no common code
pub keeps_apart : (p q : List ℕ → Bool) → ((g : List ℕ) → p g ≡ true → q g ≡ true → ⊥) → (gs : List (List ℕ)) → Apart gs → (c : ℕ) → Has c (flat (keep p gs)) → Has c (flat (keep q gs)) → ⊥
keeps_apart p q excludes gs a c m n =
    let k = has_flat c (keep p gs) m in
    let h = has_flat c (keep q gs) n in
    let i = has_keep p k.0 gs k.1 in
    let j = has_keep q h.0 gs h.1 in
    let e : k.0 ≡ h.0 = apart_unique gs a k.0 h.0 c i.0 j.0 k.2 h.2 in
    excludes h.0 (rw e at i.1) j.1

-- those that pass and those that do not
pub kept_apart : (p : List ℕ → Bool) (gs : List (List ℕ)) → Apart gs → (c : ℕ) → Has c (flat (keep p gs)) → Has c (flat (keep (λ g. not (p g)) gs)) → ⊥
kept_apart p = keeps_apart p (λ g. not (p g)) (λ g t n. not_both_lem (p g) t (not-true (p g) n))

pub apart_append : (ps qs : List (List ℕ)) → Apart ps → Apart qs → ((c : ℕ) → Has c (flat ps) → Has c (flat qs) → ⊥) → Apart (ps ++ qs)
apart_append [] qs a b n = b
apart_append (p ∷ ps) qs a b n = (
  (λ c i j. ⊎_elim (λ k. a.0 c i k) (λ k. n c (has_append_left c p (flat ps) i) k) (has_append_cases c (flat ps) (flat qs) (subst (Has c) (flat_append ps qs) j))),
  apart_append ps qs a.1 b (λ c i. n c (has_append_right c p (flat ps) i)),
)

pub distinct_flat : (ps : List (List ℕ)) → Apart ps → ((p : List ℕ) → Has p ps → Distinct p) → Distinct (flat ps)
distinct_flat [] a h = tt
distinct_flat (p ∷ ps) a h = distinct_append p (flat ps) (h p (inl refl)) (distinct_flat ps a.1 (λ q m. h q (inr m))) a.0
