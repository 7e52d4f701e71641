use mathlib.Core.Path.{sym, ◌∙◌}
use borrow.Author.Rules.{rules}
use borrow.Author.Tests.{eqb-true, eqb-false}
use Rattle.mine_places.specs.Places.{episodes_of}
use Rattle.mine_plan.proofs.PlannedLaws.{planned_silent, planned_flower, planned_leaf, planned_none, planned_cut}
use Rattle.mine_plan.proofs.planned.Goals as goal

pub returns-then-is_empty : goal.returns-then-is_empty
returns-then-is_empty c = let a = c.args in
    planned_silent (episodes_of a.w a.log.now a.places.now) a.v c.uncut.result c.uncut.ensures (eqb-true _ _ (sym c.is_empty.ensures ∙ c.if-is_empty.true))

pub returns-then-bare : goal.returns-then-bare
returns-then-bare c = let a = c.args in
    planned_flower (episodes_of a.w a.log.now a.places.now) a.v c.uncut-then-bare.result c.uncut-then-bare.ensures (search rules) (eqb-false _ _ (sym c.is_empty.ensures ∙ c.if-is_empty.false)) c.if-bare.true

pub returns-then-alone : goal.returns-then-alone
returns-then-alone c = let a = c.args in
    let g = c.graph_of-g in
    let one = c.alone in
    let some = eqb-false _ _ (sym c.is_empty.ensures ∙ c.if-is_empty.false) in
    planned_leaf (episodes_of a.w a.log.now a.places.now) a.v (search rules) some c.if-bare.false g.result g.ensures one.result one.ensures c.if-alone.true c.uncut-then-alone.result c.uncut-then-alone.ensures

pub returns-in-Some : goal.returns-in-Some
returns-in-Some c = let a = c.args in
    let g = c.graph_of-g in
    let some = eqb-false _ _ (sym c.is_empty.ensures ∙ c.if-is_empty.false) in
    planned_cut (episodes_of a.w a.log.now a.places.now) a.v (search rules) some c.if-bare.false g.result g.ensures c.alone.result c.alone.ensures c.if-alone.false c.cut_of.result c.cut_of.ensures
    _ c.in-Some.is (search rules) c.cut_plan.result c.cut_plan.ensures

pub returns-in-None : goal.returns-in-None
returns-in-None c = let a = c.args in
    let g = c.graph_of-g in
    let some = eqb-false _ _ (sym c.is_empty.ensures ∙ c.if-is_empty.false) in
    planned_none (episodes_of a.w a.log.now a.places.now) a.v (search rules) some c.if-bare.false g.result g.ensures c.alone.result c.alone.ensures c.if-alone.false c.cut_of.result c.cut_of.ensures
    c.in-None.is c.uncut-in-None.result c.uncut-in-None.ensures
