-- A list of places, two bytes taken off at a time, and the codes of events from a byte on.
use mathlib.Core.Path.{◌≡◌, refl, sym, ◌∙◌, ap, subst}
use mathlib.Core.Logic.{inl, inr}
use mathlib.Core.List.{List, [], ◌∷◌, ◌++◌}
use Prim.Native.Nat.{ℕ, zero, suc, ◌+◌, ◌-◌, ◌*◌, ◌≤◌, ◌<◌}
use native.Mathlib.Nat.{suc-mul}
use native.Mathlib.Omega.{arith}
use lib.ListN.{length, get_or, drop, length-drop, drop_of_length-le}
use lib.Seq.{drop-drop}
use Rattle.std.proofs.lemmas.List.{drop_more}
use Rattle.rules.specs.Words.{Has}
use Rattle.rules.specs.LogBlock.{codes_by}
use Rattle.mine_places.specs.Places.{places_in, place_at, codes_after, codes_of, All}

-- ---- all of a list

module _ (P : ℕ → Type 0) where
  pub all_has : (xs : List ℕ) → All P xs → (x : ℕ) → Has x xs → P x
  all_has [] a x m = absurd m
  all_has (y ∷ xs) a x (inl e) = subst P (sym e) a.0
  all_has (y ∷ xs) a x (inr m) = all_has xs a.1 x m

  pub has_all : (xs : List ℕ) → ((x : ℕ) → Has x xs → P x) → All P xs
  has_all [] h = tt
  has_all (y ∷ xs) h = (h y (inl refl), has_all xs (λ x m. h x (inr m)))

-- ---- places

-- two bytes are taken off a list
pub places_next : (left chunk later : List ℕ) → left ≡ chunk ++ later → length chunk ≡ 2 → places_in left ≡ place_at chunk 0 ∷ places_in later
places_next left chunk later cut two = ap places_in cut ∙ go chunk two
  where
    go : (t : List ℕ) → length t ≡ 2 → places_in (t ++ later) ≡ place_at t 0 ∷ places_in later
    go [] e = absurd (omega arith)
    go (x ∷ []) e = absurd (omega arith)
    go (x ∷ y ∷ []) e = refl
    go (x ∷ y ∷ z ∷ t) e = absurd (omega arith)

pub places_end : (left : List ℕ) → length left < 2 → places_in left ≡ []
places_end [] h = refl
places_end (x ∷ []) h = refl
places_end (x ∷ y ∷ t) h = absurd (omega arith)

-- ---- codes

over : (w k : ℕ) (s : List ℕ) → codes_after w k s ≡ codes_after w 0 (drop k s)
over w zero s = refl
over w (suc k) [] = refl
over w (suc k) (x ∷ s) = over w k s

module _ (w : ℕ) (some : 1 ≤ w) where
  first : (x : ℕ) (s : List ℕ) → codes_of w (x ∷ s) ≡ x ∷ codes_of w (drop w (x ∷ s))
  first x s = go w some
    where
      go : (v : ℕ) → 1 ≤ v → codes_of v (x ∷ s) ≡ x ∷ codes_of v (drop v (x ∷ s))
      go zero h = absurd (omega arith)
      go (suc v) h =
          let e : suc v - 1 ≡ v = omega arith in
          ap (λ (k : ℕ). x ∷ codes_after (suc v) k s) e ∙ ap (◌∷◌ x) (over (suc v) v s)

  -- from a byte of an event on: its code, and those of the events after it
  module _ (s : List ℕ) (i : ℕ) where
    pub codes_next : i < length s → codes_of w (drop i s) ≡ get_or s i 0 ∷ codes_of w (drop (i + w) s)
    codes_next h =
        let here = drop_more s i 0 h in
        ap (codes_of w) here ∙ first (get_or s i 0) (drop (i + 1) s)
        ∙ ap (λ (t : List ℕ). get_or s i 0 ∷ codes_of w (drop w t)) (sym here)
        ∙ ap (λ (t : List ℕ). get_or s i 0 ∷ codes_of w t) (drop-drop w i s)

    pub codes_end : length s ≤ i → codes_of w (drop i s) ≡ []
    codes_end h = ap (codes_of w) (drop_of_length-le s h)

  -- the codes of n events
  pub codes_counted : (n : ℕ) (s : List ℕ) → length s ≡ n * w → codes_by n w s ≡ codes_of w s
  unfolding codes_by
  codes_counted zero [] e = refl
  codes_counted zero (x ∷ s) e = absurd (omega arith)
  codes_counted (suc n) [] e = absurd (omega (arith, suc-mul n w, e))
  codes_counted (suc n) (x ∷ s) e =
      ap (λ (t : List ℕ). x ∷ t) (codes_counted n (drop w (x ∷ s)) (length-drop w (x ∷ s) ∙ omega (arith, suc-mul n w, e)))
      ∙ sym (first x s)
