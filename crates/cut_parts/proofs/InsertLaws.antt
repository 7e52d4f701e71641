-- The sets from a place on, one place further.
use mathlib.Core.Path.{◌≡◌, sym, ◌∙◌, ap, ap₂}
use mathlib.Core.List.{List, [], ◌∷◌, ◌++◌, append_assoc}
use Prim.Native.Nat.{ℕ, suc, ◌+◌, ◌≤◌, ◌<◌}
use native.Mathlib.Numerals.{add-one}
use native.Mathlib.Omega.{arith}
use lib.ListN.{length, take, drop, get_or, set, drop_of_length-le, length-take}
use lib.Seq.{drop-cons, get_or-take, length-take-le, take_all, take-suc-set, take-set-lt, drop-set-lt}

module _ (sets : List ℕ) (n i hand : ℕ) where
  -- the set at i goes on, and the one in hand stands there
  pub shift : i < n → n ≤ length sets → (all : List ℕ) → all ≡ take i (take n sets) ++ (hand ∷ drop i (take n sets)) →
      all ≡ take (i + 1) (take n (set sets i hand)) ++ (get_or sets i 0 ∷ drop (i + 1) (take n (set sets i hand)))
  shift l room all e =
      let P : List ℕ = take n sets in
      let low : i < length P = omega (arith, length-take-le n sets room) in
      let w : take n (set sets i hand) ≡ set P i hand = take-set-lt n sets i hand l in
      e ∙ ap (λ (xs : List ℕ). take i P ++ (hand ∷ xs)) (drop-cons P i 0 low ∙ ap (λ (v : ℕ). v ∷ drop (suc i) P) (get_or-take n sets i 0 l))
      ∙ sym (append_assoc (take i P) (hand ∷ []) (get_or sets i 0 ∷ drop (suc i) P))
      ∙ ap₂ (λ (xs ys : List ℕ). xs ++ (get_or sets i 0 ∷ ys)) (sym (take-suc-set P i hand low)) (sym (drop-set-lt (suc i) P i hand (omega arith)))
      ∙ ap (λ (k : ℕ). take k (set P i hand) ++ (get_or sets i 0 ∷ drop k (set P i hand))) (sym (add-one i))
      ∙ ap (λ (xs : List ℕ). take (i + 1) xs ++ (get_or sets i 0 ∷ drop (i + 1) xs)) (sym w)

  -- the last one goes behind all
  pub shifted : n ≤ i → (all : List ℕ) → all ≡ take i (take n sets) ++ (hand ∷ drop i (take n sets)) → take n sets ++ (hand ∷ []) ≡ all
  shifted l all e =
      let P : List ℕ = take n sets in
      let s : length P ≤ i = omega (arith, length-take n sets) in
      sym (e ∙ ap₂ (λ (xs ys : List ℕ). xs ++ (hand ∷ ys)) (take_all i P s) (drop_of_length-le P {i = i} s))
