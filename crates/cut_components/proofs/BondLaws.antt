-- What rows and columns say together, and the graph on the codes of a set.
use mathlib.Core.Path.{◌≡◌, ap, fun_ext, ◌∙◌}
use mathlib.Core.List.{List}
use Prim.Native.Nat.{ℕ}
use Rattle.rules.specs.Mining as mining
use Rattle.rules.specs.Mining.{Rel}
use Rattle.rules.specs.Calls.{code_count}
use Rattle.code_sets.specs.Bits.{has, listed}
use Rattle.graph_rows.specs.Edges.{edge_of}
use Rattle.graph_reverse.specs.Reverse.{Back}
use Rattle.cut_parts.specs.declared.Parts.{Parts}
use Rattle.cut_parts.specs.Sets.{lists_of}
use Rattle.cut_components.specs.declared.Bond.{Bond}
use Rattle.cut_components.specs.Joined.{bonded, Components}

-- the graph on the codes of a set, over any number of codes m
abbrev pub drawn : ℕ → ℕ → Rel → ℕ → ℕ → mining.Graph
drawn m kept edge starts ends = record { codes = listed m kept; edge = edge; start = has starts; end = has ends }

-- what the rows and the columns say together, the rows say both ways
pub back_is : (bond : Bond) (rows cols : List ℕ) → Back rows cols →
    ◌≡◌ {A = Rel} (λ a b. bonded bond (edge_of rows a b) (edge_of cols a b)) (λ a b. bonded bond (edge_of rows a b) (edge_of rows b a))
back_is bond rows cols h = fun_ext (λ (a : ℕ). fun_ext (λ (b : ℕ). ap (bonded bond (edge_of rows a b)) (h a b)))

-- components by rows and by columns are those of the rows both ways
pub components_are : {rows cols : List ℕ} {bond : Bond} {within : ℕ} {r : Parts} → Components rows cols bond within r → Back rows cols →
    lists_of r ≡ mining.components (λ a b. bonded bond (edge_of rows a b) (edge_of rows b a)) (listed code_count within)
components_are {rows} {cols} {bond} {within} {r} c h = c.parts ∙ ap (λ (rel : Rel). mining.components rel (listed code_count within)) (back_is bond rows cols h)
