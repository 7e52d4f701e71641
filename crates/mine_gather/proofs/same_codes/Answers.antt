use mathlib.Core.Path.{◌≡◌, sym, ◌∙◌}
use native.Mathlib.Omega.{arith}
use lib.ListN.{length}
use borrow.Author.Tests.{eqb-true}
use Rattle.mine_gather.proofs.SameLaws.{event_inside, event_past, same_turn, same_end}
use Rattle.mine_places.proofs.ListLaws.{codes_end}
use Rattle.mine_gather.proofs.same_codes.Goals as goal

pub loop-i-preserved : goal.loop-i-preserved
loop-i-preserved c =
    let a = c.args in
    let i = c.loop-i.i in
    let h = event_inside a.w c.requires.0.some a.a.now i (omega arith) in
    same_turn a.w c.requires.0.some a.a.now a.b.now i c.loop-i.same c.loop-i.invariant h (omega (arith, h))

pub returns : goal.returns
returns c =
    let a = c.args in
    let i = c.loop-i.i in
    let h = event_past a.w c.requires.0.some a.a.now i (omega arith) in
    same_end a.w c.requires.0.some a.a.now a.b.now i c.loop-i.same c.loop-i.invariant h (omega (arith, h))

pub returns-then-is_empty : goal.returns-then-is_empty
returns-then-is_empty c e =
    let a = c.args in
    let none : length a.a.now ≡ 0 = eqb-true (length a.a.now) 0 (sym c.is_empty.ensures ∙ c.if-is_empty.true) in
    codes_end a.w c.requires.0.some a.a.now 0 (omega (arith, none)) ∙ sym (codes_end a.w c.requires.0.some a.b.now 0 (omega (arith, none)))
