use mathlib.Core.Path.{sym, ◌∙◌}
use borrow.Author.Rules.{rules}
use Rattle.mine_places.specs.Places.{episodes_of}
use Rattle.mine_places.proofs.PassLaws.{listed_next, pass_read, pass_end}
use Rattle.mine_views.specs.Sublogs.{sight}
use Rattle.mine_trails.specs.Growing.{with_pieces}
use Rattle.mine_trails.proofs.TrailLaws.{drawn_from}
use Rattle.mine_graph.proofs.PassLaws.{graph_nil, graph_append}
use Rattle.mine_graph.proofs.graph_of.Goals as goal

pub loop-place-preserved-then-not-nothing_new : goal.loop-place-preserved-then-not-nothing_new
loop-place-preserved-then-not-nothing_new c = let a = c.args in
    let s = sight a.v in
    let l = c.loop-place in
    let k = c.in-Some.ensures.steps in (
      k.0 ∙ l.invariant.0,
      listed_next a.w a.log.now _ _ _ l.invariant.1 k.1.0 _ k.1.1 l.invariant.0,
      pass_read (with_pieces s) (graph_nil s) (graph_append s) a.w a.log.now _ _ _ l.invariant.2 _ l.invariant.0 _ _ k.1.0 k.1.1 _ c.place_at-at.ensures _ c.events_at-events.ensures _ c.graph_codes-g.ensures,
      search rules,
      c.meet-first-then-not-nothing_new.ensures,
    )

pub loop-place-preserved : goal.loop-place-preserved
loop-place-preserved c = let a = c.args in
    let s = sight a.v in
    let l = c.loop-place in
    let k = c.in-Some.ensures.steps in (
      k.0 ∙ l.invariant.0,
      listed_next a.w a.log.now _ _ _ l.invariant.1 k.1.0 _ k.1.1 l.invariant.0,
      pass_read (with_pieces s) (graph_nil s) (graph_append s) a.w a.log.now _ _ _ l.invariant.2 _ l.invariant.0 _ _ k.1.0 k.1.1 _ c.place_at-at.ensures _ c.events_at-events.ensures _ (sym (c.nothing_new.ensures c.if-not-nothing_new.false l.g.starts l.invariant.4)),
      l.invariant.3,
      l.invariant.4,
    )

pub returns : goal.returns
returns c = let a = c.args in
    let new = c.new-g in
    let s = sight a.v in
    pass_end (with_pieces s) (graph_nil s) (graph_append s) a.w a.log.now _ _ _ c.loop-place.invariant.2 _ c.loop-place.invariant.0 c.in-None.ensures.steps.1.0
    ∙ drawn_from new.result a.v.keep.bits s (episodes_of a.w a.log.now a.places.now) new.ensures
