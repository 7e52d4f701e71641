-- What joins two codes, and how a code joins parts.
use Rattle.std.specs.Prelude.{◌≡◌, List, [], ◌∷◌, ◌++◌, Bool, not, ◌||◌, ◌&&◌, ℕ, ◌≤◌}
use Rattle.std.specs.Bool.{beq}
use Rattle.std.specs.Int.Bits.{bit_or}
use Rattle.rules.specs.Words.{pick}
use Rattle.rules.specs.Mining.{components}
use Rattle.rules.specs.Calls.{code_count}
use Rattle.code_sets.specs.Bits.{listed}
use Rattle.graph_rows.specs.Edges.{edge_of}
use Rattle.cut_parts.specs.declared.Parts.{Parts}
use Rattle.cut_parts.specs.Sets.{lists_of, meets}
use Rattle.cut_components.specs.declared.Bond.{Bond}
use Rattle.cut_components.specs.declared.Bond.TheVariants.{Either, Alike, NotBoth}

-- two codes are joined, by the edge from one to the other and the edge back
abbrev pub bonded : Bond → Bool → Bool → Bool
bonded Either to back = to || back
bonded Alike to back = beq to back
bonded NotBoth to back = not (to && back)

-- the sets that meet the row put into one, and the others after it
abbrev pub join_on : ℕ → ℕ → List ℕ → List ℕ → List ℕ
join_on row whole others [] = whole ∷ others
join_on row whole others (p ∷ ps) = pick (meets row p) (join_on row (bit_or whole p) others ps) (join_on row whole (others ++ (p ∷ [])) ps)

-- the components of the codes of a set, where cols has the edges the other way
pub record Components (rows cols : List ℕ) (bond : Bond) (within : ℕ) (r : Parts) : Type 0 where
  pub few : r.n ≤ code_count
  pub parts : lists_of r ≡ components (λ a b. bonded bond (edge_of rows a b) (edge_of cols a b)) (listed code_count within)
