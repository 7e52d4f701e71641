use native.Mathlib.Omega.{arith}
use mathlib.Core.Path.{refl}
use Rattle.judge_call.proofs.JudgeLaws.{judge_long, judge_short, judge_nodes, judge_fits, judge_misfit}
use Rattle.judge_call.proofs.judge.Goals as goal

pub size_at-n-requires : goal.size_at-n-requires
size_at-n-requires c = (omega arith, judge_long _ _ c.args.work.now _ (c.in_ok-accept.ensures c.args.work.now refl))

pub fits-requires : goal.fits-requires
fits-requires c =
    let call = c.in_ok-accept.ensures c.args.work.now refl in
    (judge_short _ _ c.args.work.now _ call, judge_nodes _ _ c.args.work.now _ call _ c.size_at-n.ensures)

pub returns-then-fits : goal.returns-then-fits
returns-then-fits c =
    judge_fits _ _ c.args.work.now _ (c.in_ok-accept.ensures c.args.work.now refl) _ c.size_at-n.ensures _ _ c.fits.ensures.0 c.fits.ensures.1 c.if-fits.true

pub returns : goal.returns
returns c =
    judge_misfit _ _ c.args.work.now _ (c.in_ok-accept.ensures c.args.work.now refl) _ c.size_at-n.ensures _ _ c.fits.ensures.0 c.fits.ensures.1 c.if-fits.false
