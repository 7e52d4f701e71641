use native.Mathlib.Omega.{arith}
use mathlib.Core.List.{List}
use mathlib.Core.Path.{sym, subst}
use Prim.Native.Nat.{ℕ}
use lib.Seq.{length-take-le}
use Rattle.rules.proofs.HeartbeatLaws.{without_short}
use Rattle.judge_events.proofs.CopyLaws.{copy_front}
use Rattle.judge_fits.specs.Fits.{Nodes, FitSays}
use Rattle.judge_call.proofs.fits.Goals as goal

pub slice_bounds-fits-end : goal.slice_bounds-fits-end
slice_bounds-fits-end c = let copied = c.copy_events-count in
    sym (length-take-le _ copied.new.out (omega (arith, copied.ensures.size, copied.ensures.count, without_short c.args.episode.now, c.requires.0)))

pub fits-requires : goal.fits-requires
fits-requires c = let a = c.args in
    subst (λ (e : List ℕ). Nodes a.tree.now e a.work.now a.n) (sym (copy_front _ _ _ _ c.copy_events-count.ensures)) c.requires.1

pub returns : goal.returns
returns c = let a = c.args in
    (subst (λ (e : List ℕ). FitSays a.tree.now a.n e c.fits.result) (copy_front _ _ _ _ c.copy_events-count.ensures) c.fits.ensures.0, c.fits.ensures.1)
