use native.Mathlib.Omega.{arith}
use mathlib.Core.Path.{◌≡◌, sym, ◌∙◌}
use mathlib.Core.Bool.{false≢true}
use borrow.Author.Tests.{eqb-true, eq-eqb}
use Rattle.mine_missed.proofs.MissedLaws.{lacked_none, below_lacked, below_met, below_all}
use borrow.Author.Rules.{rules}
use Rattle.mine_missed.proofs.with_lacked.Goals as goal
use Rattle.mine_missed.proofs.with_lacked.Goals.{then-part-own-eq0, else-part-own-eq0}

pub returns-then-is_empty : goal.returns-then-is_empty
returns-then-is_empty c = let a = c.args in lacked_none a.own.bits a.sets.now a.missed (eqb-true _ _ (sym c.is_empty.ensures ∙ c.if-is_empty.true))

pub loop-k-preserved : goal.loop-k-preserved
loop-k-preserved c = let l = c.loop-k in
    let a = c.args in
    elim c.if-part-own-eq0.branch [
      | then-part-own-eq0 w ↦ rw w.m-is (below_lacked a.own.bits a.sets.now a.missed l.m l.k l.invariant (search rules) (omega arith) w.if-part-own-eq0.true)
      | else-part-own-eq0 w ↦ rw w.m-is (below_met a.own.bits a.sets.now a.missed l.m l.k l.invariant (search rules) w.if-part-own-eq0.false)
    ]

pub returns : goal.returns
returns c = let some : c.args.own.bits ≡ 0 → ⊥ = (λ e. false≢true (sym c.if-is_empty.false ∙ c.is_empty.ensures ∙ eq-eqb _ 0 e)) in search below_all depth 9
