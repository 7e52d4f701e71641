use native.Mathlib.Omega.{arith}
use Rattle.rules.specs.TreeBlock.{op_of}
use Rattle.judge_rows.specs.Rows.{at, joined_by}
use Rattle.judge_rows.proofs.TableLaws.{rows_all, joined_out, at_out}
use Rattle.judge_joins.proofs.join_rows.Goals as goal

pub returns : goal.returns
returns c = let l = c.loop-i in
    let old = c.args.rows.now in
    let next = c.args.next.now in
    let o = op_of c.args.operator in
    rows_all l.rows (λ k j. joined_by o (at old k) (at next) k j) l.invariant.0
    (λ k j g. joined_out o (at old k) (at next) k j (λ m. at_out old k m (omega (arith, c.requires.0))) (λ m. at_out next k m (omega (arith, c.requires.1))))
    (λ i j g. l.invariant.1 i j (omega arith))
