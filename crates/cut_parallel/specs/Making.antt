-- Parts made of components, on sets.
use Rattle.std.specs.Prelude.{List, Bool, not, ◌&&◌, ℕ}
use Rattle.std.specs.Int.Bits.{bit_or}
use Rattle.rules.specs.Words.{keep}
use Rattle.cut_parts.specs.Sets.{meets}
use Rattle.cut_pairs.specs.Pairs.{places_of, pair_all}

-- a code of the one row and none of the other
abbrev pub only : ℕ → ℕ → ℕ → Bool
only row other p = meets row p && not (meets other p)

-- the components with only starts paired with those with only ends; those with a start and an end then
unfoldable pub made_on : ℕ → ℕ → List ℕ → List ℕ
made_on starts ends sets = keep (λ p. meets starts p && meets ends p) (pair_all 0 bit_or (places_of 0 (only starts ends) sets) (places_of 0 (only ends starts) sets) sets)
