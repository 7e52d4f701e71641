use native.Mathlib.Omega.{arith}
use Prim.Native.Nat.{ℕ}
use mathlib.Core.Path.{ap, ◌∙◌}
use mathlib.Core.List.{[]}
use lib.ListN.{length-take}
use Rattle.rules.specs.Calls.{code_count}
use Rattle.code_sets.proofs.BitLaws.{one_shl}
use Rattle.cut_parts.specs.Sets.{sets_of}
use Rattle.cut_components.specs.Joined.{join_on}
use Rattle.cut_components.proofs.SweepLaws.{sweep_met, sweep_unmet, sweep_end}
use Rattle.cut_components.proofs.joined.Goals as goal
use Rattle.cut_components.proofs.joined.Goals.{then-part-row-ne0, else-part-row-ne0}

pub loop-part-preserved : goal.loop-part-preserved
loop-part-preserved c =
    let parts = c.args.parts in
    let few = length-take parts.n parts.sets in
    let s = c.loop-part.invariant in
    elim c.if-part-row-ne0.branch [
      | then-part-row-ne0 w ↦ rw (w.whole-is, w.kept-is, w.m-is) (sweep_met _ _ _ _ _ _ _ s (omega arith) (omega arith) w.if-part-row-ne0.true)
      | else-part-row-ne0 w ↦ rw (w.whole-is, w.kept-is, w.m-is) (sweep_unmet _ _ _ _ _ _ _ s (omega arith) (omega arith) w.if-part-row-ne0.false)
    ]

pub returns : goal.returns
unfolding sets_of
returns c = let a = c.args in
    let l = c.loop-part in
    let few = length-take a.parts.n a.parts.sets in
    (omega (arith, l.invariant.few), sweep_end _ _ _ _ _ _ _ l.invariant (omega arith) ∙ ap (λ (w : ℕ). join_on a.row w [] (sets_of a.parts)) (one_shl code_count a.code (omega arith)))
