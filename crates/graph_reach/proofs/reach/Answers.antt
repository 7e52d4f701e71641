use native.Mathlib.Omega.{arith}
use Prim.Native.Nat.{ℕ, ◌-◌}
use mathlib.Core.Path.{◌≡◌, refl, ap, ◌∙◌}
use Rattle.rules.specs.Words.{from}
use Rattle.rules.specs.Mining.{through}
use Rattle.rules.specs.Calls.{code_count}
use Rattle.graph_rows.specs.Edges.{edge_of}
use Rattle.graph_rows.proofs.TableLaws.{owned, edge_below}
use Rattle.graph_reach.proofs.ReachLaws.{through_turn, no_way}
use Rattle.graph_reach.proofs.reach.Goals as goal

pub loop-k-init : goal.loop-k-init
unfolding through
loop-k-init c = (owned c.args.rows _ c.well_formed.0, λ a b. refl)

pub loop-k-preserved-then-rows-k-ne0 : goal.loop-k-preserved-then-rows-k-ne0
loop-k-preserved-then-rows-k-ne0 c = let l = c.loop-k in
    let next = c.by_way-rows in (
      owned next.result _ next.type_inv,
      through_turn code_count (edge_of c.args.rows) l.k (l.k - 1) (omega arith) (omega arith) (edge_of l.rows) (edge_of next.result) (edge_below code_count l.rows l.invariant.0) l.invariant.1 next.ensures,
    )

pub loop-k-preserved : goal.loop-k-preserved
loop-k-preserved c = let l = c.loop-k in (
  l.invariant.0,
  through_turn code_count (edge_of c.args.rows) l.k (l.k - 1) (omega arith) (omega arith) (edge_of l.rows) (edge_of l.rows) (edge_below code_count l.rows l.invariant.0) l.invariant.1 (no_way l.rows (l.k - 1) c.if-rows-k-ne0.false),
)

pub returns : goal.returns
returns c a b = let l = c.loop-k in
    let z : l.k ≡ 0 = omega arith in
    l.invariant.1 a b ∙ ap (λ (k : ℕ). through (from 0 code_count) (from k (code_count - k)) (edge_of c.args.rows) a b) z
