-- What the parts say, as sets and as the rules have them.
use Rattle.std.specs.Prelude.{List, Bool, not, ℕ, eqb, take}
use Rattle.std.specs.Int.Bits.{bit_and}
use Rattle.rules.specs.Words.{each}
use Rattle.rules.specs.Calls.{code_count}
use Rattle.code_sets.specs.Bits.{listed}
use Rattle.cut_parts.specs.declared.Parts.{Parts}

-- the sets of some parts, in order
unfoldable pub sets_of : Parts → List ℕ
sets_of p = take p.n p.sets

-- the parts as the rules have them
unfoldable pub lists_of : Parts → List (List ℕ)
lists_of p = each (listed code_count) (sets_of p)

-- the set has a code of the row
unfoldable pub meets : ℕ → ℕ → Bool
meets row p = not (eqb (bit_and p row) 0)
