-- Pairs among parts, by their places.
use Rattle.std.specs.Prelude.{List, [], ◌∷◌, Bool, ℕ, ltb, length, get_or, set}
use Rattle.rules.specs.Words.{pick, keep, from}

-- the earlier of two places
abbrev pub earlier : ℕ → ℕ → ℕ
earlier i j = pick (ltb i j) i j

module _ {A : Type 0} (none : A) where
  -- the places of those that pass a test
  abbrev pub places_of : (A → Bool) → List A → List ℕ
  places_of f xs = keep (λ i. f (get_or xs i none)) (from 0 (length xs))

  module _ (one : A → A → A) where
    -- what stands at i and at j becomes one, at the earlier place
    abbrev pub pair_at : ℕ → ℕ → List A → List A
    pair_at i j xs = set xs (earlier i j) (one (get_or xs i none) (get_or xs j none))

    -- the first of some places pairs with the first of others, and so on
    abbrev pub pair_all : List ℕ → List ℕ → List A → List A
    pair_all [] js xs = xs
    pair_all (i ∷ is) [] xs = xs
    pair_all (i ∷ is) (j ∷ js) xs = pair_all is js (pair_at i j xs)
