use mathlib.Core.Path.{◌≡◌, ◌∙◌}
use borrow.Author.Rules.{rules}
use Rattle.mine_places.specs.Places.{codes_of}
use Rattle.mine_places.proofs.CodesLaws.{codes_left, left_first, left_turn, left_end, left_less, code_given, codes_rest}
use Rattle.mine_trails.specs.Growing.{trail}
use Rattle.mine_trails.proofs.TurnLaws.{trail_start, trail_next, trail_end}
use Rattle.mine_trails.proofs.TrailLaws.{Turn, coded_after, turn_grown, turn_is, turn_noted, turn_pass}
use Rattle.mine_trails.proofs.graph_codes.Goals as goal
use Rattle.mine_trails.proofs.graph_codes.Goals.{then-not-adds_nothing, else-not-adds_nothing}

pub loop-c-init : goal.loop-c-init
loop-c-init c = let e : codes_left c.into_iter-c-iterator.result ≡ codes_of c.args.w c.args.events.now = search left_first depth 9 in
    rw e (search trail_start, search rules, tt)

pub has_first-requires : goal.has_first-requires
has_first-requires c = search code_given

pub adds_nothing-requires : goal.adds_nothing-requires
adds_nothing-requires c = (search code_given, c.loop-c.invariant.2)

pub grown-h-requires : goal.grown-h-requires
grown-h-requires c = (search code_given, c.loop-c.invariant.2)

pub last_after-last-requires : goal.last_after-last-requires
last_after-last-requires c = search code_given

pub loop-c-smaller-then-has_first : goal.loop-c-smaller-then-has_first
loop-c-smaller-then-has_first c = search left_less

pub loop-c-preserved-then-has_first : goal.loop-c-preserved-then-has_first
loop-c-preserved-then-has_first c =
    let k = c.args.v.keep.bits in
    let b = c.args.v.breaks.bits in
    let l = c.loop-c in
    let x = c.in-Some.field-0.now in
    let s = trail l.h l.last in
    let seen = c.has_first.ensures ∙ c.union-watched.ensures x in
    let last = c.last_after-last in
    let turn : Turn s k b x (trail c.if-not-adds_nothing.h last.result) =
    elim c.if-not-adds_nothing.branch [
      | then-not-adds_nothing w ↦ turn_is s k b x _ _ _ _ w.h-is last.ensures (turn_grown s k b x _ seen c.if-has_first.true _ w.grown-h.ensures)
      | else-not-adds_nothing w ↦ turn_is s k b x _ _ _ _ w.h-is last.ensures (turn_noted l.h k b x (search code_given) l.last l.invariant.2 _ seen c.if-has_first.true _ c.adds_nothing.ensures w.if-not-adds_nothing.false)
    ] in
    (trail_next _ _ _ _ _ _ l.invariant.0 _ _ (search left_turn) _ turn, search codes_rest, coded_after _ _ (search code_given) _ last.ensures)

pub loop-c-smaller : goal.loop-c-smaller
loop-c-smaller c = search left_less

pub loop-c-preserved : goal.loop-c-preserved
loop-c-preserved c =
    let l = c.loop-c in
    let x = c.in-Some.field-0.now in
    let seen = c.has_first.ensures ∙ c.union-watched.ensures x in
    (trail_next _ _ _ _ _ _ l.invariant.0 _ _ (search left_turn) _ (turn_pass l.h l.last _ _ x _ seen c.if-has_first.false), search codes_rest, l.invariant.2)

pub returns : goal.returns
returns c = trail_end _ _ _ _ _ _ c.loop-c.invariant.0 (search left_end) _ c.closed.ensures
