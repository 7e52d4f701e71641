use mathlib.Core.Path.{sym, ◌∙◌}
use Rattle.rules.specs.Calls.{code_count}
use Rattle.code_sets.specs.Bits.{listed}
use Rattle.graph_rows.specs.Edges.{edge_of}
use Rattle.code_sets.proofs.ListedLaws.{listed_count}
use Rattle.mine_plan.proofs.AloneLaws.{alone_one, alone_not}
use Rattle.mine_plan.proofs.alone.Goals as goal

pub returns-then-count-ne1 : goal.returns-then-count-ne1
returns-then-count-ne1 c = let a = c.args in
    alone_not (edge_of a.g.rows) (listed code_count a.keep.bits) (λ e. c.if-count-ne1.true (c.count.ensures ∙ sym (listed_count code_count a.keep.bits) ∙ e))

pub returns : goal.returns
unfolding edge_of
returns c = let a = c.args in
    alone_one (edge_of a.g.rows) (listed code_count a.keep.bits) (listed_count code_count a.keep.bits ∙ sym c.count.ensures ∙ c.if-count-ne1.false) _ c.first-c.ensures.1 c.has.result c.has.ensures
