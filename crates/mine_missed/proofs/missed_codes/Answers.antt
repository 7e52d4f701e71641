use mathlib.Core.Path.{sym, ◌∙◌}
use Rattle.mine_places.proofs.CodesLaws.{left_turn, left_end, left_less, code_given, codes_rest}
use Rattle.mine_missed.proofs.WalkLaws.{missed_first, missed_seen, missed_cut, missed_end}
use Rattle.mine_missed.proofs.missed_codes.Goals as goal

pub has_first-requires : goal.has_first-requires
has_first-requires c = search code_given depth 7

pub loop-c-smaller-then-has_first : goal.loop-c-smaller-then-has_first
loop-c-smaller-then-has_first c = search left_less depth 7

pub loop-c-preserved-then-has_first : goal.loop-c-preserved-then-has_first
loop-c-preserved-then-has_first c = (search codes_rest depth 7, c.loop-c.invariant.1 ∙ search (missed_cut _ _ _ c.minus-cuts.ensures _ _ c.meet.ensures, left_turn) depth 14)

pub with_code-seen-requires : goal.with_code-seen-requires
with_code-seen-requires c = search code_given depth 7

pub loop-c-smaller : goal.loop-c-smaller
loop-c-smaller c = search left_less depth 7

pub loop-c-preserved : goal.loop-c-preserved
loop-c-preserved c = (search codes_rest depth 7, c.loop-c.invariant.1 ∙ search (missed_seen, code_given, left_turn) depth 14)

pub returns : goal.returns
returns c = let apart = c.minus-cuts.ensures in
    search (missed_end _ _ _ apart _ _ c.meet-2.ensures, left_end) depth 14 ∙ sym c.loop-c.invariant.1 ∙ search (missed_first _ _ _ apart) depth 7
