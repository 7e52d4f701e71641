-- The list at the front of the work: a place that it has, one more place, and what is written behind it.
use mathlib.Core.Path.{◌≡◌, refl, sym, ap, subst, ◌∙◌}
use mathlib.Core.Logic.{inl, inr}
use mathlib.Core.List.{List, [], ◌∷◌, ◌++◌}
use Prim.Native.Nat.{ℕ, zero, suc, ◌+◌, ◌*◌, ◌%◌, ◌/◌, ◌≤◌, ◌<◌}
use native.Mathlib.Omega.{arith}
use lib.ListN.{length, get_or, take, drop, set, length-append}
use lib.Seq.{sets, sets-eq, take_at, take-set-le, length-take-le}
use Rattle.rules.specs.Words.{Has}
use Rattle.mine_places.specs.Places.{two_bytes, places_in, place_at}
use Rattle.mine_gather.specs.Gathering.{list_of, as_bytes}

-- n whole places and more bytes
places_append : (n : ℕ) (s t : List ℕ) → length s ≡ 2 * n → places_in (s ++ t) ≡ places_in s ++ places_in t
places_append zero [] t e = refl
places_append zero (x ∷ s) t e = absurd (omega arith)
places_append (suc n) [] t e = absurd (omega arith)
places_append (suc n) (x ∷ []) t e = absurd (omega arith)
places_append (suc n) (x ∷ y ∷ s) t e = ap (λ (l : List ℕ). two_bytes x y ∷ l) (places_append n s t (omega arith))

-- the place of number k
pub place_listed : (n k : ℕ) (work : List ℕ) → k < n → 2 * n ≤ length work → Has (place_at work (2 * k)) (places_in (list_of n work))
place_listed zero k work h l = absurd (omega arith)
place_listed (suc n) k [] h l = absurd (omega arith)
place_listed (suc n) k (x ∷ []) h l = absurd (omega arith)
place_listed (suc n) k (x ∷ y ∷ work) h l =
    let e : 2 * suc n ≡ suc (suc (2 * n)) = omega arith in
    subst (λ (m : ℕ). Has (place_at (x ∷ y ∷ work) (2 * k)) (places_in (take m (x ∷ y ∷ work)))) (sym e) (go k h (λ j g. place_listed n j work g (omega arith)))
  where
    go : (k : ℕ) → k < suc n → ((j : ℕ) → j < n → Has (place_at work (2 * j)) (places_in (list_of n work))) → Has (place_at (x ∷ y ∷ work) (2 * k)) (two_bytes x y ∷ places_in (list_of n work))
    go zero h ih = inl refl
    go (suc k) h ih =
        let f : 2 * suc k ≡ suc (suc (2 * k)) = omega arith in
        let g : 2 * suc k + 1 ≡ suc (suc (2 * k + 1)) = omega arith in
        inr (subst (λ (p : ℕ). Has p (places_in (list_of n work))) (sym (λ i. two_bytes (get_or (x ∷ y ∷ work) (f i) 0) (get_or (x ∷ y ∷ work) (g i) 0))) (ih k (omega arith)))

-- the bytes of a number are that number
bytes_back : (n : ℕ) → n < 65536 → two_bytes (n % 256) (n / 256) ≡ n
bytes_back n h = omega arith

module _ (n : ℕ) (work : List ℕ) where
  -- one place more
  pub list_more : (at : ℕ) → at < 65536 → 2 * n + 2 ≤ length work → places_in (list_of (n + 1) (sets work (2 * n) (as_bytes at))) ≡ places_in (list_of n work) ++ (at ∷ [])
  list_more at small room =
      let front : length (take (2 * n) work) ≡ 2 * n = length-take-le (2 * n) work (omega arith) in
      let long : length (take (2 * n) work ++ as_bytes at) ≡ 2 * (n + 1) = length-append (take (2 * n) work) (as_bytes at) ∙ omega (arith, front) in
      ap (λ (s : List ℕ). places_in (list_of (n + 1) s)) (sets-eq (as_bytes at) work (2 * n) room)
      ∙ ap places_in (take_at (take (2 * n) work ++ as_bytes at) (drop (2 * n + 2) work) (2 * (n + 1)) long)
      ∙ places_append n (take (2 * n) work) (as_bytes at) front
      ∙ ap (λ (k : ℕ). places_in (list_of n work) ++ (k ∷ [])) (bytes_back at small)

  -- what is written behind the list leaves it as it was
  pub list_kept : (i k : ℕ) → 2 * n ≤ i → list_of n (sets work i (as_bytes k)) ≡ list_of n work
  list_kept i k h = take-set-le (2 * n) (set work i (k % 256)) (suc i) (k / 256) (omega arith) ∙ take-set-le (2 * n) work i (k % 256) h
