-- Parts of an episode, cut in two.
use Prim.Native.Nat.{ℕ, zero, suc, ◌+◌, ◌-◌, ◌≤◌}
use native.Mathlib.Nat.{zero-add, suc-add}
use native.Mathlib.Omega.{arith}
use mathlib.Core.List.{List, [], ◌∷◌, ◌++◌}
use mathlib.Core.Path.{◌≡◌, sym, ap, ap₂, ◌∙◌}
use lib.ListN.{take, drop, take-append-drop}
use lib.Seq.{slice, drop-drop, take-take, take-nil}

take_of_drop : (i p : ℕ) (l : List ℕ) → take p (drop i l) ≡ drop i (take (i + p) l)
take_of_drop zero p l = ap (λ (n : ℕ). take n l) (sym (zero-add p))
take_of_drop (suc i) p [] = take-nil p ∙ sym (ap (drop (suc i)) (take-nil (suc i + p)))
take_of_drop (suc i) p (x ∷ l) = take_of_drop i p l ∙ sym (ap (λ (n : ℕ). drop (suc i) (take n (x ∷ l))) (suc-add i p))

module _ (e : List ℕ) (i p j : ℕ) (h : i + p ≤ j) where
  pub cut_front : take p (slice i j e) ≡ slice i (i + p) e
  cut_front = take_of_drop i p (take j e) ∙ ap (drop i) (take-take (i + p) j e h)

  pub cut_back : drop p (slice i j e) ≡ slice (i + p) j e
  cut_back = drop-drop p i (take j e)

pub slice_joined : (e : List ℕ) (i k j : ℕ) → i ≤ k → k ≤ j → slice i j e ≡ slice i k e ++ slice k j e
slice_joined e i k j h g =
    let q : i + (k - i) ≡ k = omega arith in
    let u : i + (k - i) ≤ j = omega arith in
    sym (take-append-drop (k - i) (slice i j e))
    ∙ ap₂ ◌++◌ (cut_front e i (k - i) j u ∙ ap (λ (n : ℕ). slice i n e) q) (cut_back e i (k - i) j u ∙ ap (λ (n : ℕ). slice n j e) q)
