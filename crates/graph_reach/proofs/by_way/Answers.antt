use native.Mathlib.Omega.{arith}
use Prim.Native.Nat.{ℕ}
use mathlib.Core.Path.{ap, ◌∙◌}
use mathlib.Core.Bool.{◌||◌, ◌&&◌}
use Rattle.code_sets.specs.Bits.{has}
use Rattle.graph_rows.specs.Edges.{edge_of}
use Rattle.graph_rows.proofs.TableLaws.{owned, edge_past, fill_more, filled_edge}
use Rattle.graph_reach.proofs.by_way.Invariants.{by_way}
use Rattle.graph_reach.proofs.by_way.Goals as goal

pub loop-row-preserved : goal.loop-row-preserved
unfolding edge_of
loop-row-preserved c = let a = c.args in
    let l = c.loop-row in
    let size = (owned a.rows _ c.well_formed.0).size in
    fill_more (by_way a.rows a.k) a.rows l.row-items l.row-index c.stepped.result (omega (arith, size)) l.invariant
    (λ b. c.stepped.ensures b ∙ ap (λ (x : ℕ). has x b || (has x a.k && edge_of a.rows a.k b)) (l.invariant.above l.row-index (omega arith)))

pub returns : goal.returns
returns c = let a = c.args in
    let l = c.loop-row in
    let size = (owned a.rows _ c.well_formed.0).size in
    filled_edge (λ j b. edge_of a.rows j b || (edge_of a.rows j a.k && edge_of a.rows a.k b)) a.rows l.row-items l.row-index (omega (arith, size)) l.invariant
    (λ j b h. simp (edge_past a.rows j b h, edge_past a.rows j a.k h))
