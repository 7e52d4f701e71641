use native.Mathlib.Omega.{arith}
use mathlib.Core.Path.{sym, ◌∙◌}
use mathlib.Core.Logic.{inl, inr, ⊎_elim}
use Rattle.rules.specs.Calls.{code_count}
use Rattle.code_sets.proofs.ListedLaws.{code_below}
use Rattle.cut_pairs.proofs.PlaceLaws.{pairs_end}
use Rattle.cut_pairs.proofs.join_pairs.Goals as goal

pub join_pair-requires : goal.join_pair-requires
join_pair-requires c =
    let step = c.in-Some.ensures.steps in
    (omega (arith, code_below code_count _ _ _ step.0), omega (arith, code_below code_count _ _ _ step.1))

pub returns : goal.returns
returns c = sym (c.loop-i.invariant ∙ pairs_end _ _ c.loop-i.sets (⊎_elim (λ e. inl e.1.0) (λ e. inr e.1.0) c.in-None.ensures.steps))
