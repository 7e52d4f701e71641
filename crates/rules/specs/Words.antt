-- Words for lists and tests. A set of codes is an ascending list, read through `mem`.
use Rattle.std.specs.Prelude.{◌≡◌, ◌⊎◌, List, [], ◌∷◌, ◌++◌, Bool, true, false, ◌&&◌, ◌||◌, ℕ, zero, suc, ◌+◌, length, take, drop, replicate, eqb}

-- the first where the test holds, else the second
abbrev pub pick : {A : Type 0} → Bool → A → A → A
pick true a b = a
pick false a b = b

abbrev pub implies : Bool → Bool → Bool
implies true b = b
implies false b = true

module _ {A : Type 0} where
  -- a is in the list
  abbrev pub Has : A → List A → Type 0
  Has a [] = ⊥
  Has a (x ∷ xs) = (a ≡ x) ⊎ Has a xs

  abbrev pub any : (A → Bool) → List A → Bool
  any p [] = false
  any p (x ∷ xs) = p x || any p xs

  abbrev pub all : (A → Bool) → List A → Bool
  all p [] = true
  all p (x ∷ xs) = p x && all p xs

  -- x put before xs where the test holds
  abbrev pub push : Bool → A → List A → List A
  push true x xs = x ∷ xs
  push false x xs = xs

  -- those that pass the test, in their order
  abbrev pub keep : (A → Bool) → List A → List A
  keep p [] = []
  keep p (x ∷ xs) = push (p x) x (keep p xs)

module _ {A B : Type 0} where
  abbrev pub each : (A → B) → List A → List B
  each f [] = []
  each f (x ∷ xs) = f x ∷ each f xs

abbrev pub flat : {A : Type 0} → List (List A) → List A
flat [] = []
flat (x ∷ xs) = x ++ flat xs

-- c is in the list
abbrev pub mem : ℕ → List ℕ → Bool
mem c [] = false
mem c (x ∷ xs) = eqb c x || mem c xs

-- n numbers from i on
abbrev pub from : ℕ → ℕ → List ℕ
from i zero = []
from i (suc n) = i ∷ from (suc i) n

-- n elements from a place
abbrev pub part : List ℕ → ℕ → ℕ → List ℕ
part b at n = take n (drop at b)

-- n zeros
unfoldable pub zeros : ℕ → List ℕ
zeros n = replicate n 0

-- s written over b from a place on
unfoldable pub overlaid : List ℕ → ℕ → List ℕ → List ℕ
overlaid b at s = take at b ++ s ++ drop (at + length s) b
