use native.Mathlib.Omega.{arith}
use Prim.Native.Nat.{ℕ, ◌+◌}
use mathlib.Core.Path.{◌∙◌, ap}
use mathlib.Core.List.{◌∷◌, ◌++◌}
use lib.ListN.{length-set, take, drop}
use Rattle.cut_parts.specs.Sets.{sets_of}
use Rattle.graph_rows.proofs.TableLaws.{owned}
use Rattle.cut_parts.proofs.InsertLaws.{shift, shifted}
use Rattle.cut_parts.proofs.inserted.Goals as goal

pub loop-i-preserved : goal.loop-i-preserved
loop-i-preserved c =
    let l = c.loop-i in
    let s = c.args.parts in
    let room = (owned s.sets _ c.well_formed.0.1.1.1.0).size in (
      l.invariant.0,
      length-set l.parts.sets l.i l.hand ∙ l.invariant.1,
      shift l.parts.sets l.parts.n l.i l.hand (omega (arith, l.invariant.0)) (omega (arith, l.invariant.0, l.invariant.1)) _ l.invariant.2,
    )

pub returns : goal.returns
unfolding sets_of
returns c =
    let l = c.loop-i in
    let s = c.args.parts in (
      c.with.ensures.0 ∙ ap (λ (n : ℕ). n + 1) l.invariant.0,
      c.with.ensures.1 ∙ shifted l.parts.sets l.parts.n l.i l.hand (omega (arith, l.invariant.0)) _ l.invariant.2
          ∙ ap (λ (n : ℕ). take c.args.at (take n s.sets) ++ (c.args.part ∷ drop c.args.at (take n s.sets))) l.invariant.0,
    )
