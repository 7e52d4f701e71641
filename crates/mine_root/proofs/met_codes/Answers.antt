use mathlib.Core.Path.{◌≡◌}
use borrow.Author.Rules.{rules}
use Rattle.mine_places.specs.Places.{codes_of}
use Rattle.mine_places.proofs.CodesLaws.{codes_left, left_first, left_turn, left_end, left_less, code_given, codes_rest}
use Rattle.mine_root.proofs.CodeLaws.{met_first, met_next, met_end, met_quiet, met_full}
use Rattle.mine_root.proofs.met_codes.Goals as goal

pub returns-then-eq : goal.returns-then-eq
returns-then-eq c = met_full _ _ _ c.with_code-met.ensures (search rules)

pub loop-c-init : goal.loop-c-init
loop-c-init c = let e : codes_left c.into_iter-c-iterator.result ≡ codes_of c.args.w c.args.events.now = search left_first depth 9 in
    rw e (c.requires.codes, search met_first depth 7)

pub with_code-k-requires : goal.with_code-k-requires
with_code-k-requires c = search code_given depth 7

pub loop-c-smaller : goal.loop-c-smaller
loop-c-smaller c = search left_less depth 7

pub loop-c-preserved : goal.loop-c-preserved
loop-c-preserved c = let e = c.loop-c in
    (search codes_rest depth 7, met_next _ _ _ e.invariant.1 _ _ (search left_turn depth 7) _ c.with_code-k.ensures)

pub returns : goal.returns
returns c = met_quiet _ _ _ (met_end _ _ _ c.loop-c.invariant.1 (search left_end depth 7))
