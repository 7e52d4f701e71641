use mathlib.Core.Path.{sym, ◌∙◌}
use borrow.Author.Rules.{rules}
use borrow.Author.Tests.{eqb-true}
use Rattle.mine_places.proofs.CodesLaws.{left_turn, left_end, left_less, code_given}
use Rattle.mine_graph.proofs.QuietLaws.{quiet_event, quiet_break, quiet_pass, quiet_end}
use Rattle.mine_graph.proofs.nothing_new.Goals as goal

pub has_first-requires : goal.has_first-requires
has_first-requires c = search code_given

pub has_code-requires : goal.has_code-requires
has_code-requires c = search code_given

pub bounds-rows-c : goal.bounds-rows-c
bounds-rows-c c = search (rules, code_given)

pub with_code-open-requires : goal.with_code-open-requires
with_code-open-requires c = search code_given

pub loop-c-smaller-then-has_code : goal.loop-c-smaller-then-has_code
loop-c-smaller-then-has_code c = search left_less

pub loop-c-preserved-then-has_code : goal.loop-c-preserved-then-has_code
loop-c-preserved-then-has_code c = quiet_event c.loop-c.invariant _ _ (search left_turn) c.has_code.ensures c.if-has_code.true c.meet-known.ensures _ c.with_code-open.ensures

pub has_code-requires-else-has_code : goal.has_code-requires-else-has_code
has_code-requires-else-has_code c = search code_given

pub loop-c-smaller-else-has_code : goal.loop-c-smaller-else-has_code
loop-c-smaller-else-has_code c = search left_less

pub loop-c-preserved-else-has_code : goal.loop-c-preserved-else-has_code
loop-c-preserved-else-has_code c =
    quiet_break c.loop-c.invariant _ _ (search left_turn) c.has_first.ensures c.if-has_first.true c.has_code-else-has_code.ensures c.if-has_code-2.false _ c.minus.ensures (eqb-true _ _ (sym c.is_empty.ensures ∙ c.if-not-is_empty.false))

pub loop-c-smaller : goal.loop-c-smaller
loop-c-smaller c = search left_less

pub loop-c-preserved : goal.loop-c-preserved
loop-c-preserved c = quiet_pass c.loop-c.invariant _ _ (search left_turn) c.has_first.ensures c.if-has_first.false

pub returns : goal.returns
returns c e starts f = quiet_end c.loop-c.invariant (search left_end) _ c.minus-2.ensures (eqb-true _ _ (sym c.is_empty-2.ensures ∙ e)) c.args.v.bare starts f _ c.union-watched.ensures
