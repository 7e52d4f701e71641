use mathlib.Core.Path.{◌∙◌}
use Rattle.mine_root.proofs.RootLaws.{widened_one}
use Rattle.mine_root.proofs.root_codes.Goals as goal
use Rattle.mine_root.proofs.root_codes.Goals.{then-v, else-v}

pub returns : goal.returns
returns c = let a = c.args in
    widened_one a.w _ _ _ _ a.events.now c.met_codes.ensures _ (elim c.if-v.branch [ then-v w ↦ rw w.if-v.true (w.result-is ∙ w.if-v.true) | else-v w ↦ rw w.if-v.false (w.result-is ∙ w.eventless.ensures) ])
