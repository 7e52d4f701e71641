use mathlib.Core.Path.{◌≡◌, ◌∙◌}
use Rattle.std.specs.Slice.Iter.{chunks_exact_rest}
use Rattle.mine_places.proofs.PassLaws.{listed_next, pass_end, pass_read}
use Rattle.mine_root.specs.Widened.{widened}
use Rattle.mine_root.proofs.RootLaws.{widened_nil, widened_append, widened_root}
use borrow.Author.Rules.{rules}
use Rattle.mine_root.proofs.root_of.Goals as goal

pub loop-place-init : goal.loop-place-init
loop-place-init c = let all : chunks_exact_rest c.into_iter-place-iterator.result ≡ c.args.places.now = search rules in
    (search rules, rw all c.requires.all, rw all (search widened_root depth 7))

pub loop-place-preserved : goal.loop-place-preserved
loop-place-preserved c = let a = c.args in
    let l = c.loop-place in
    let k = c.in-Some.ensures.steps in (
      k.0 ∙ l.invariant.0,
      listed_next a.w a.log.now _ _ _ l.invariant.1 k.1.0 _ k.1.1 l.invariant.0,
      pass_read widened widened_nil widened_append a.w a.log.now _ _ _ l.invariant.2 _ l.invariant.0 _ _ k.1.0 k.1.1 _ c.place_at-at.ensures _ c.events_at-events.ensures _ c.root_codes-v.ensures,
    )

pub returns : goal.returns
returns c = let a = c.args in
    let l = c.loop-place in
    pass_end widened widened_nil widened_append a.w a.log.now _ _ _ l.invariant.2 _ l.invariant.0 c.in-None.ensures.steps.1.0
