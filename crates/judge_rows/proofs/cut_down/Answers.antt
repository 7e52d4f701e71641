use Prim.Native.Nat.{ℕ, ◌+◌, ◌-◌, ◌*◌, ◌%◌, ◌^◌}
use native.Mathlib.Omega.{arith}
use native.Mathlib.Nat.{le_refl}
use mathlib.Core.Path.{◌≡◌, sym, ap, ◌∙◌, subst}
use mathlib.Core.Bool.{true, false}
use lib.ListN.{length, drop, length-drop}
use lib.Seq.{length-take-le}
use lib.Bits.{bit_or}
use Rattle.code_sets.specs.Bits.{has}
use Rattle.code_sets.proofs.BitLaws.{has_zero}
use Rattle.judge_rows.specs.Rows.{between, clear}
use Rattle.judge_rows.proofs.RunLaws.{back, clear_last, clear_turn}
use Rattle.judge_rows.proofs.CutLaws.{Cut, cut_past, cut_turn}
use Rattle.judge_rows.proofs.cut_down.Goals as goal
use Rattle.judge_rows.proofs.cut_down.Goals.{then-has, else-has}

pub loop-i-init : goal.loop-i-init
loop-i-init c = let e = c.args.episode.now in
    let rows = c.args.rows.now in
    let B = has c.args.blocked.bits in
    let last : (j : ℕ) → has (1 * 2 ^ length e % 2 ^ 64) j ≡ between (clear B) e (length e) j = λ j. clear_last B e j (omega arith) in (
      le_refl (length e),
      last,
      cut_turn B e c.args.rows.now (length e) _ _ (omega arith) last (cut_past B e c.args.rows.now _ _ c.requires.0 (omega (arith, length-take-le (length rows - (length e + 1)) (drop (length e + 1) rows), length-drop (length e + 1) rows)) (c.fill.ensures.after (λ y h. h))),
    )

pub loop-i-preserved : goal.loop-i-preserved
loop-i-preserved c = let l = c.loop-i in
    let e = c.args.episode.now in
    let B = has c.args.blocked.bits in
    let i = l.i - 1 in
    let said = c.has.ensures in
    let row : (j : ℕ) → has (bit_or c.if-has.run (1 * 2 ^ i % 2 ^ 64)) j ≡ between (clear B) e i j =
    λ j. elim c.if-has.branch [
      | then-has w ↦ clear_turn B e i c.if-has.run true j (omega arith) (omega arith) (sym said ∙ w.if-has.true) (ap (λ (x : ℕ). has x j) w.run-is ∙ has_zero j)
      | else-has w ↦ clear_turn B e i c.if-has.run false j (omega arith) (omega arith) (sym said ∙ w.if-has.false)
          (ap (λ (x : ℕ). has x j) w.run-is ∙ l.invariant.1 j ∙ ap (λ (m : ℕ). between (clear B) e m j) (back l.i (omega arith)))
    ] in
    (omega arith, row, cut_turn B e c.args.rows.now i l.rows _ (omega arith) row (subst (λ (m : ℕ). Cut B e c.args.rows.now m l.rows) (back l.i (omega arith)) l.invariant.2))

pub returns : goal.returns
returns c i j = c.loop-i.invariant.2.from i j (omega arith)
