use Prim.Native.Nat.{ℕ, ◌-◌, ◌<◌}
use native.Mathlib.Omega.{arith}
use mathlib.Core.Path.{refl, sym, ◌∙◌}
use mathlib.Core.Bool.{false≢true}
use lib.ListN.{length, get_or, length-set}
use Rattle.code_sets.specs.Bits.{has}
use Rattle.judge_rows.specs.Rows.{at, after, Loops, Upper, Says}
use Rattle.judge_rows.proofs.TableLaws.{at_new, at_other, stored_down}
use Rattle.judge_joins.proofs.LoopLaws.{Tail, loop_row, loop_tail, loops_out, tail_out}
use Rattle.judge_joins.proofs.loop_rows.Goals as goal

pub loop-i-init : goal.loop-i-init
loop-i-init c = let a = c.args in (
  omega arith,
  refl,
  refl,
  λ k j g. at_new 64 k j,
  λ k j g. at_new 64 k j,
  λ ua ub k j g.
      (λ e. absurd (false≢true (sym (at_new 64 k j) ∙ e)), λ l. absurd (loops_out (at a.a.now) (at a.b.now) ua k j g l)),
  λ ua ub k j g.
      (λ e. absurd (false≢true (sym (at_new 64 k j) ∙ e)), λ l. absurd (tail_out (at a.a.now) (at a.b.now) ub k j g l)),
)

pub loop-i-preserved : goal.loop-i-preserved
unfolding after
loop-i-preserved c = let l = c.loop-i in
    let x = c.args in
    let i = l.i - 1 in
    let A = at x.a.now in
    let B = at x.b.now in
    let row : Upper A → Upper B → (j : ℕ) → Says (has c.grown-row.result j) (Loops A B i j) =
    λ ua ub. loop_row A B ua ub i (at l.rows) (at l.tails) (λ k j g. l.invariant.3 k j (omega arith)) (λ k j g. l.invariant.4 k j (omega arith))
    (λ k j g. l.invariant.5 ua ub k j (omega arith)) (λ k j g. l.invariant.6 ua ub k j (omega arith))
    (get_or x.a.now i 0) c.chain-past.result c.chain-later.result c.grown-row.result c.grown.result
    (λ j. refl) c.chain-past.ensures c.chain-later.ensures c.grown-row.ensures c.grown.ensures in
    let tail : Upper A → Upper B → (j : ℕ) → Says (has c.grown.result j) (Tail A B i j) =
    λ ua ub. loop_tail A B ua ub i (at l.rows) (at l.tails) (λ k j g. l.invariant.3 k j (omega arith)) (λ k j g. l.invariant.4 k j (omega arith))
    (λ k j g. l.invariant.5 ua ub k j (omega arith)) (λ k j g. l.invariant.6 ua ub k j (omega arith))
    (get_or x.a.now i 0) c.chain-past.result c.chain-later.result c.grown-row.result c.grown.result
    (λ j. refl) c.chain-past.ensures c.chain-later.ensures c.grown-row.ensures c.grown.ensures in
    let fits : i < length l.rows = omega arith in
    let fits_tails : i < length l.tails = omega arith in (
      omega arith,
      length-set l.rows i _ ∙ l.invariant.1,
      length-set l.tails i _ ∙ l.invariant.2,
      λ k j g. at_other l.rows i c.grown-row.result fits k j (λ e. omega arith) ∙ l.invariant.3 k j (omega arith),
      λ k j g. at_other l.tails i c.grown.result fits_tails k j (λ e. omega arith) ∙ l.invariant.4 k j (omega arith),
      λ ua ub. stored_down l.rows i c.grown-row.result fits (λ k j t. Says t (Loops A B k j)) (row ua ub) (λ k j g. l.invariant.5 ua ub k j (omega arith)),
      λ ua ub. stored_down l.tails i c.grown.result fits_tails (λ k j t. Says t (Tail A B k j)) (tail ua ub) (λ k j g. l.invariant.6 ua ub k j (omega arith)),
    )

pub returns : goal.returns
returns c ua ub i j = c.loop-i.invariant.5 ua ub i j (omega arith)
