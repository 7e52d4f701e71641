use native.Mathlib.Omega.{arith}
use mathlib.Core.Path.{refl, ◌∙◌}
use Rattle.rules.specs.Calls.{code_count}
use Rattle.graph_rows.specs.Edges.{edge_of}
use Rattle.graph_rows.proofs.TableLaws.{owned}
use Rattle.graph_reverse.proofs.TurnedLaws.{rows_none, rows_more, rows_all}
use Rattle.graph_reverse.proofs.transpose.Goals as goal

pub loop-a-init : goal.loop-a-init
loop-a-init c = (refl, rows_none code_count c.args.rows)

pub loop-a-preserved : goal.loop-a-preserved
unfolding edge_of
loop-a-preserved c = let l = c.loop-a in
    let more = c.turned in
    (more.auto.out ∙ l.invariant.0, rows_more c.args.rows l.out more.new.out l.a l.invariant.1 more.ensures)

pub returns : goal.returns
returns c i b = let rows = c.args.rows in
    let l = c.loop-a in
    l.invariant.1 i b ∙ rows_all rows l.a (omega (arith, (owned rows _ c.well_formed.0).size)) i b
