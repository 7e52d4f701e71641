-- What a cut says.
use Rattle.std.specs.Prelude.{◌≡◌, List, true, ℕ, ◌≤◌, Option, Some, None, IfSome}
use Rattle.rules.specs.Trees.{choice, sequence, parallel}
use Rattle.rules.specs.Mining.{Shape, flower, cut, or_else, cut_or, choice_parts, sequence_parts, parallel_parts}
use Rattle.rules.specs.TreeBlock.{op_of}
use Rattle.rules.specs.Calls.{code_count}
use Rattle.code_sets.specs.Bits.{has, listed}
use Rattle.graph_rows.specs.declared.Graph.{Graph}
use Rattle.graph_rows.specs.Edges.{edge_of, meant}
use Rattle.cut_parts.specs.Sets.{lists_of}
use Rattle.cut_first.specs.declared.Cut.{Cut}

-- every edge is between two codes of the set
abbrev pub Inside : Graph → ℕ → Type 0
Inside g kept = (a b : ℕ) → edge_of g.rows a b ≡ true → (has kept a ≡ true) × (has kept b ≡ true)

-- the cut, else s
abbrev pub cut_else : Option Cut → Shape → Shape
cut_else None s = s
cut_else (Some c) s = cut (op_of c.operator) (lists_of c.parts)

-- what is made of a graph with these codes
unfoldable pub cut_shape : Option Cut → List ℕ → Shape
cut_shape c cs = cut_else c (flower cs)

-- the first of choice, sequence and parallel
pub record WithoutLoop (g : Graph) (kept : ℕ) (r : Option Cut) : Type 0 where
  pub few : IfSome r (λ c. c.parts.n ≤ code_count)
  pub two : IfSome r (λ c. 2 ≤ c.parts.n)
  pub shape : Inside g kept → (s : Shape) →
      cut_else r s ≡ or_else choice (choice_parts (meant g kept)) (or_else sequence (sequence_parts (meant g kept)) (or_else parallel (parallel_parts (meant g kept)) s))

-- the first cut of a graph on the codes of a set
pub record CutOf (g : Graph) (kept : ℕ) (r : Option Cut) : Type 0 where
  pub few : IfSome r (λ c. c.parts.n ≤ code_count)
  pub two : IfSome r (λ c. 2 ≤ c.parts.n)
  pub shape : Inside g kept → cut_shape r (listed code_count kept) ≡ cut_or (meant g kept) (flower (listed code_count kept))
