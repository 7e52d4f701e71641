-- Codes met one after the other, none of them twice.
use mathlib.Core.Path.{◌≡◌, refl, sym}
use mathlib.Core.Logic.{inl, inr}
use mathlib.Core.List.{List, [], ◌∷◌, ◌++◌}
use mathlib.Core.Bool.{Bool, true, false, ◌||◌, false≢true}
use Prim.Native.Nat.{ℕ}
use lib.Dec.{eqb}
use borrow.Author.Tests.{eqb-false, ne_eqb}
use Rattle.rules.specs.Words.{Has, mem}
use Rattle.rules.specs.WellFormed.{Distinct}

-- the codes seen after those of a list
abbrev pub onto : List ℕ → List ℕ → List ℕ
onto [] seen = seen
onto (x ∷ xs) seen = onto xs (x ∷ seen)

-- no code of the list was seen before it is met
abbrev pub Fresh : List ℕ → List ℕ → Type 0
Fresh [] seen = Unit {0}
Fresh (x ∷ xs) seen = (mem x seen ≡ false) × Fresh xs (x ∷ seen)

pub onto_append : (xs ys seen : List ℕ) → onto (xs ++ ys) seen ≡ onto ys (onto xs seen)
onto_append [] ys seen = refl
onto_append (x ∷ xs) ys seen = onto_append xs ys (x ∷ seen)

pub fresh_append : (xs ys seen : List ℕ) → Fresh xs seen → Fresh ys (onto xs seen) → Fresh (xs ++ ys) seen
fresh_append [] ys seen f g = g
fresh_append (x ∷ xs) ys seen f g = (f.0, fresh_append xs ys (x ∷ seen) f.1 g)

pub fresh_front : (xs ys seen : List ℕ) → Fresh (xs ++ ys) seen → Fresh xs seen
fresh_front [] ys seen f = tt
fresh_front (x ∷ xs) ys seen f = (f.0, fresh_front xs ys (x ∷ seen) f.1)

pub fresh_rest : (xs ys seen : List ℕ) → Fresh (xs ++ ys) seen → Fresh ys (onto xs seen)
fresh_rest [] ys seen f = f
fresh_rest (x ∷ xs) ys seen f = fresh_rest xs ys (x ∷ seen) f.1

-- ---- fresh from the start is distinct

or_neither : (a b : Bool) → (a || b) ≡ false → (a ≡ false) × (b ≡ false)
or_neither true b e = absurd (false≢true (sym e))
or_neither false b e = (refl, e)

pub fresh_new : (xs seen : List ℕ) → Fresh xs seen → (c : ℕ) → Has c xs → mem c seen ≡ false
fresh_new [] seen f c m = absurd m
fresh_new (x ∷ xs) seen f c (inl e) = rw e f.0
fresh_new (x ∷ xs) seen f c (inr m) = (or_neither (eqb c x) (mem c seen) (fresh_new xs (x ∷ seen) f.1 c m)).1

pub fresh_distinct : (xs seen : List ℕ) → Fresh xs seen → Distinct xs
fresh_distinct [] seen f = tt
fresh_distinct (x ∷ xs) seen f =
    (λ m. eqb-false x x (or_neither (eqb x x) (mem x seen) (fresh_new xs (x ∷ seen) f.1 x m)).0 refl, fresh_distinct xs (x ∷ seen) f.1)

pub distinct_fresh : (xs seen : List ℕ) → Distinct xs → ((c : ℕ) → Has c xs → mem c seen ≡ false) → Fresh xs seen
distinct_fresh [] seen d new = tt
distinct_fresh (x ∷ xs) seen d new =
    (new x (inl refl), distinct_fresh xs (x ∷ seen) d.1 (λ c m. rw (ne_eqb c x (λ e. d.0 (rw e at m))) (new c (inr m))))
