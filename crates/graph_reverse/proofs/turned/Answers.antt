use native.Mathlib.Omega.{arith}
use mathlib.Core.Path.{◌∙◌}
use Rattle.rules.specs.Calls.{code_count}
use Rattle.code_sets.proofs.ListedLaws.{code_below}
use Rattle.graph_reverse.proofs.TurnedLaws.{turned_more, turned_all}
use borrow.Author.Rules.{rules}
use Rattle.graph_reverse.proofs.turned.Goals as goal

pub bounds-out-c : goal.bounds-out-c
bounds-out-c c = omega (arith, code_below code_count _ _ _ c.in-Some.ensures.steps)

pub bounds-out-c-in-loop-c : goal.bounds-out-c-in-loop-c
bounds-out-c-in-loop-c c = omega (arith, code_below code_count _ _ _ c.in-Some.ensures.steps)

pub loop-c-preserved : goal.loop-c-preserved
loop-c-preserved c i b = let st = c.before in
    c.loop-c.invariant i b ∙ turned_more code_count c.loop-c.out st.args.a c.in-Some.c _ _ st.requires.1 (omega (arith, code_below code_count _ _ _ c.in-Some.ensures.steps)) c.in-Some.ensures.steps i b

pub returns : goal.returns
returns c = turned_all code_count c.args.out.now c.loop-c.out c.args.row c.args.a _ (search rules) c.in-None.ensures.steps.0 c.loop-c.invariant
