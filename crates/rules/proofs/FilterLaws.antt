-- Filters and tests over joined lists, over lists of images and over runs of numbers.
use mathlib.Core.Path.{◌≡◌, refl, sym, ◌∙◌, ap, ap₂}
use mathlib.Core.Logic.{inl, inr}
use mathlib.Core.List.{List, [], ◌∷◌, ◌++◌}
use mathlib.Core.Bool.{Bool, true, false, ◌&&◌, ◌||◌}
use Prim.Native.Nat.{ℕ, zero, suc, ◌+◌}
use native.Mathlib.Nat.{suc-add, zero-add, add-zero}
use native.Mathlib.Omega.{arith}
use Rattle.rules.specs.Words.{any, all, push, keep, each, from}
use Rattle.rules.proofs.ListLaws.{Has}

module _ {A : Type 0} where
  pub any_ext : (p q : A → Bool) (xs : List A) → ((x : A) → Has x xs → p x ≡ q x) → any p xs ≡ any q xs
  any_ext p q [] h = refl
  any_ext p q (x ∷ xs) h = ap₂ ◌||◌ (h x (inl refl)) (any_ext p q xs (λ y m. h y (inr m)))

  pub all_ext : (p q : A → Bool) (xs : List A) → ((x : A) → Has x xs → p x ≡ q x) → all p xs ≡ all q xs
  all_ext p q [] h = refl
  all_ext p q (x ∷ xs) h = ap₂ ◌&&◌ (h x (inl refl)) (all_ext p q xs (λ y m. h y (inr m)))

module _ {A B : Type 0} where
  each_push : (f : A → B) (b : Bool) (x : A) (xs : List A) → push b (f x) (each f xs) ≡ each f (push b x xs)
  each_push f true x xs = refl
  each_push f false x xs = refl

  -- a filter of images is the images of a filter
  pub keep_each : (q : B → Bool) (f : A → B) (xs : List A) → keep q (each f xs) ≡ each f (keep (λ x. q (f x)) xs)
  keep_each q f [] = refl
  keep_each q f (x ∷ xs) = ap (push (q (f x)) (f x)) (keep_each q f xs) ∙ each_push f (q (f x)) x (keep (λ y. q (f y)) xs)

  pub all_each : (q : B → Bool) (f : A → B) (xs : List A) → all q (each f xs) ≡ all (λ x. q (f x)) xs
  all_each q f [] = refl
  all_each q f (x ∷ xs) = ap (λ (t : Bool). q (f x) && t) (all_each q f xs)

  pub any_each : (q : B → Bool) (f : A → B) (xs : List A) → any q (each f xs) ≡ any (λ x. q (f x)) xs
  any_each q f [] = refl
  any_each q f (x ∷ xs) = ap (λ (t : Bool). q (f x) || t) (any_each q f xs)

-- a run of a + b numbers
pub from_append : (a b i : ℕ) → from i (a + b) ≡ from i a ++ from (i + a) b
from_append zero b i = ap (from i) (zero-add b) ∙ ap (λ (k : ℕ). from k b) (sym (add-zero i))
from_append (suc a) b i =
    let e : suc i + a ≡ i + suc a = omega arith in
    ap (from i) (suc-add a b) ∙ ap (λ (xs : List ℕ). i ∷ xs) (from_append a b (suc i)) ∙ ap (λ (k : ℕ). i ∷ (from (suc i) a ++ from k b)) e
