use native.Mathlib.Omega.{arith}
use mathlib.Core.Path.{sym, ◌∙◌}
use Rattle.rules.specs.Calls.{code_count}
use Rattle.graph_rows.specs.Edges.{meant}
use Rattle.graph_rows.proofs.TableLaws.{owned}
use Rattle.cut_loop.specs.Roomed.{roomed}
use Rattle.cut_first.specs.Cuts.{Inside}
use Rattle.code_sets.proofs.ListedLaws.{listed_count}
use Rattle.cut_first.proofs.CutLaws.{Looked, looked, first_loop, none_of_four, Later, later_alone, cut_none, cut_some}
use Rattle.cut_first.proofs.cut_of.Goals as goal
use Rattle.cut_first.proofs.cut_of.Goals.{After-loop_parts-parts, then-count-ge2+else-is_some, else-count-ge2}

-- where the loop is looked for, there is none of the first three
later : (c : After-loop_parts-parts) → Inside c.args.g c.args.keep.bits → Later (meant c.args.g c.args.keep.bits)
unfolding meant
later c i =
    elim c.if-count-ge2.branch [
      | then-count-ge2+else-is_some w ↦ λ s. sym (cut_none w.cut_without_loop-cut.result (sym w.is_some.ensures ∙ w.if-is_some.false) s) ∙ w.cut_without_loop-cut.ensures.shape i s
      | else-count-ge2 w ↦ later_alone (meant c.args.g c.args.keep.bits) (omega (arith, w.if-count-ge2.false, c.count.ensures, listed_count code_count c.args.keep.bits))
    ]

loops : (c : After-loop_parts-parts) → Looked c.loop_parts-parts.result (roomed (meant c.args.g c.args.keep.bits))
loops c = let lo = c.loop_parts-parts in looked lo.result _ (owned lo.result.sets _ lo.type_inv.1.1.1.0) lo.ensures

pub returns-then-is_some : goal.returns-then-is_some
returns-then-is_some c = let cut = c.cut_without_loop-cut in cut_some cut.result (sym c.is_some.ensures ∙ c.if-is_some.true) _ _ cut.ensures

pub returns-then-parts-ge2 : goal.returns-then-parts-ge2
returns-then-parts-ge2 c = let r = (goal.at.returns-then-parts-ge2 c).After-loop_parts-parts in first_loop _ _ (later r) _ (loops r) (omega (arith, c.if-parts-ge2.true))

pub returns : goal.returns
returns c = let r = (goal.at.returns c).After-loop_parts-parts in none_of_four _ _ (later r) _ (loops r) (omega (arith, c.if-parts-ge2.false))
