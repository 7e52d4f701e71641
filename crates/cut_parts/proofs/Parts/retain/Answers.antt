use native.Mathlib.Omega.{arith}
use mathlib.Core.Path.{sym, ◌∙◌}
use lib.ListN.{get_or, length-set}
use Rattle.cut_parts.specs.Sets.{sets_of}
use Rattle.cut_parts.proofs.RetainLaws.{moved_in, moved_on, moved_all}
use Rattle.cut_parts.proofs.Parts.retain.Goals as goal
use Rattle.cut_parts.proofs.Parts.retain.Goals.{then-test, else-test}

pub loop-i-preserved : goal.loop-i-preserved
loop-i-preserved g c =
    let l = c.loop-i in
    let s = l.self.sets in
    let n = c.args.self.now.n in
    let part = get_or s l.i 0 in
    let inv = l.invariant in
    let few = c.requires.few in
    elim c.if-test.branch [
      | then-test w ↦ rw (w.self-is, w.kept-is) (omega arith, length-set s l.kept part ∙ inv.1, λ p t. moved_in p s n l.kept l.i _ (omega arith) (omega arith) inv.0 (sym (t part c.test.result c.test.ensures) ∙ w.if-test.true) (inv.2 p t))
      | else-test w ↦ rw (w.self-is, w.kept-is) (omega arith, inv.1, λ p t. moved_on p s n l.kept l.i _ (omega arith) (omega arith) (sym (t part c.test.result c.test.ensures) ∙ w.if-test.false) (inv.2 p t))
    ]

pub returns-clause-kept : goal.returns-clause-kept
unfolding sets_of
returns-clause-kept g c p t =
    let l = c.loop-i in
    moved_all p l.self.sets c.args.self.now.n l.kept l.i _ (omega arith) (l.invariant.2 p t)
