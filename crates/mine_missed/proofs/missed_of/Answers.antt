use mathlib.Core.Path.{◌≡◌, refl, ◌∙◌}
use Rattle.std.specs.Slice.Iter.{chunks_exact_rest}
use Rattle.mine_places.proofs.PassLaws.{listed_next, pass_end, pass_read}
use Rattle.mine_views.specs.Sublogs.{sight}
use Rattle.mine_missed.specs.Missed.{missed_by}
use Rattle.mine_missed.proofs.MissedLaws.{missed_nil, missed_append, missed_all}
use borrow.Author.Rules.{rules}
use Rattle.mine_missed.proofs.missed_of.Goals as goal

pub loop-place-init : goal.loop-place-init
loop-place-init c = let all : chunks_exact_rest c.into_iter-place-iterator.result ≡ c.args.places.now = search rules in
    (search rules, rw all c.requires.0.all, rw all refl)

pub loop-place-preserved : goal.loop-place-preserved
loop-place-preserved c = let a = c.args in
    let s = sight a.v in
    let sets = a.sets.now in
    let l = c.loop-place in
    let k = c.in-Some.ensures.steps in (
      k.0 ∙ l.invariant.0,
      listed_next a.w a.log.now _ _ _ l.invariant.1 k.1.0 _ k.1.1 l.invariant.0,
      pass_read (missed_by s sets) (missed_nil s sets) (missed_append s sets) a.w a.log.now _ _ _ l.invariant.2 _ l.invariant.0 _ _ k.1.0 k.1.1 _ c.place_at-at.ensures _ c.events_at-events.ensures _ c.missed_codes-m.ensures,
    )

pub returns : goal.returns
returns c = let a = c.args in
    let s = sight a.v in
    let sets = a.sets.now in
    let l = c.loop-place in
    missed_all s sets _ _ (search rules) c.at_first-m.ensures _ (pass_end (missed_by s sets) (missed_nil s sets) (missed_append s sets) a.w a.log.now _ _ _ l.invariant.2 _ l.invariant.0 c.in-None.ensures.steps.1.0)
