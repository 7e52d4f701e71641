-- Where a set goes among others, and the groups that belong together in the order of reach.
use Rattle.std.specs.Prelude.{List, [], ◌∷◌, ℕ}
use Rattle.rules.specs.Words.{pick, from}
use Rattle.rules.specs.Mining.{Rel, through, components, together, head_of, ordered}
use Rattle.rules.specs.Calls.{code_count}
use Rattle.code_sets.specs.Bits.{has, listed}
use Rattle.graph_rows.specs.Edges.{edge_of}

-- of sets of m codes: p put before the first whose smallest code is in the row
abbrev pub place_on : ℕ → ℕ → ℕ → List ℕ → List ℕ
place_on m row p [] = p ∷ []
place_on m row p (q ∷ qs) = pick (has row (head_of (listed m q))) (p ∷ q ∷ qs) (q ∷ place_on m row p qs)

-- reach among all codes
unfoldable pub reached : List ℕ → Rel
reached rows = through (from 0 code_count) (from 0 code_count) (edge_of rows)

-- the groups of the set's codes that belong together, in the order of reach
unfoldable pub in_sequence : List ℕ → ℕ → List (List ℕ)
in_sequence rows kept = ordered (reached rows) (components (together (reached rows)) (listed code_count kept))
