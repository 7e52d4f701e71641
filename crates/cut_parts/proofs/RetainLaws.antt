-- Those that pass a test, moved up to the front of the table that they stand in.
use mathlib.Core.Path.{◌≡◌, sym, ◌∙◌, ap, ap₂}
use mathlib.Core.List.{List, [], ◌∷◌, ◌++◌, append_assoc, append-nil}
use mathlib.Core.Bool.{Bool, true, false}
use Prim.Native.Nat.{ℕ, suc, ◌+◌, ◌≤◌, ◌<◌}
use native.Mathlib.Numerals.{add-one}
use native.Mathlib.Omega.{arith}
use lib.ListN.{length, take, drop, get_or, set, drop_of_length-le, length-take}
use lib.Seq.{drop-cons, get_or-take, length-take-le, take-suc-set, take-set-lt, drop-set-lt}
use Rattle.rules.specs.Words.{push, keep}

-- the sets from i on, where i is below their number
pub rest : (sets : List ℕ) (n i : ℕ) → i < n → n ≤ length sets → drop i (take n sets) ≡ get_or sets i 0 ∷ drop (i + 1) (take n sets)
rest sets n i low room =
    drop-cons (take n sets) i 0 (omega (arith, length-take-le n sets room))
    ∙ ap (λ (v : ℕ). v ∷ drop (suc i) (take n sets)) (get_or-take n sets i 0 low) ∙ ap (λ (k : ℕ). get_or sets i 0 ∷ drop k (take n sets)) (sym (add-one i))

-- and where it is not
pub rest_none : (sets : List ℕ) (n i : ℕ) → n ≤ i → drop i (take n sets) ≡ []
rest_none sets n i l = drop_of_length-le (take n sets) {i = i} (omega (arith, length-take n sets))

module _ (f : ℕ → Bool) (sets : List ℕ) (n k i : ℕ) (all : List ℕ) where
  -- the first k are those that passed so far
  abbrev pub Moved : Type 0
  Moved = all ≡ take k sets ++ keep f (drop i (take n sets))

  module _ (low : i < n) (room : n ≤ length sets) where
    pub moved_in : k ≤ i → f (get_or sets i 0) ≡ true → Moved → all ≡ take (k + 1) (set sets k (get_or sets i 0)) ++ keep f (drop (i + 1) (take n (set sets k (get_or sets i 0))))
    moved_in l h e =
        let p = get_or sets i 0 in
        let later = keep f (drop (i + 1) (take n sets)) in
        e ∙ ap (λ (xs : List ℕ). take k sets ++ keep f xs) (rest sets n i low room) ∙ ap (λ (b : Bool). take k sets ++ push b p later) h
        ∙ sym (append_assoc (take k sets) (p ∷ []) later)
        ∙ ap₂ ◌++◌ (sym (ap (λ (j : ℕ). take j (set sets k p)) (add-one k) ∙ take-suc-set sets k p (omega arith)))
        (ap (keep f) (sym (ap (drop (i + 1)) (take-set-lt n sets k p (omega arith)) ∙ drop-set-lt (i + 1) (take n sets) k p (omega arith))))

    pub moved_on : f (get_or sets i 0) ≡ false → Moved → all ≡ take k sets ++ keep f (drop (i + 1) (take n sets))
    moved_on h e =
        e ∙ ap (λ (xs : List ℕ). take k sets ++ keep f xs) (rest sets n i low room) ∙ ap (λ (b : Bool). take k sets ++ push b (get_or sets i 0) (keep f (drop (i + 1) (take n sets)))) h

  pub moved_all : n ≤ i → Moved → take k sets ≡ all
  moved_all l e = sym (e ∙ ap (λ (xs : List ℕ). take k sets ++ keep f xs) (rest_none sets n i l) ∙ append-nil (take k sets))
