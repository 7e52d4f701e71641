use mathlib.Core.Path.{sym, subst}
use native.Mathlib.Omega.{arith}
use Rattle.mine_places.specs.Places.{Events}
use Rattle.mine_gather.proofs.FoundLaws.{hinted, hinted_same}
use Rattle.mine_gather.proofs.look_up.Goals as goal

pub events_at-requires : goal.events_at-requires
events_at-requires c = let a = c.args in
    (c.requires.2.few, hinted a.w a.log.now a.n a.work.now c.requires.2 c.requires.0 _ (omega arith) (omega arith) _ c.place_at-at.ensures)

pub same_events-requires : goal.same_events-requires
same_events-requires c = let a = c.args in
    let known = hinted a.w a.log.now a.n a.work.now c.requires.2 c.requires.0 _ (omega arith) (omega arith) _ c.place_at-at.ensures in
    (subst (Events a.w) (sym c.events_at.ensures) known.events, c.requires.1)

pub returns-then-same_events : goal.returns-then-same_events
returns-then-same_events c = let a = c.args in
    hinted_same a.w a.log.now a.n a.work.now c.requires.2 c.requires.0 _ (omega arith) (omega arith) _ c.place_at-at.ensures _ c.events_at.ensures _ (c.same_events.ensures c.if-same_events.true)
