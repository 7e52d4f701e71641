use borrow.Author.Tests.{eq-eqb, ne_eqb}
use Prim.Native.Nat.{ℕ, ◌+◌, ◌-◌, ◌*◌, ◌%◌, ◌^◌, ◌<◌}
use native.Mathlib.Omega.{arith}
use mathlib.Core.List.{List}
use mathlib.Core.Path.{◌≡◌, refl, sym, ap, ap₂, ◌∙◌}
use mathlib.Core.Bool.{Bool, true, false, not, ◌&&◌}
use lib.ListN.{length, get_or, length-set}
use lib.Bits.{bit_or}
use lib.Dec.{eqb}
use Rattle.rules.specs.Words.{pick}
use Rattle.code_sets.specs.Bits.{has}
use Rattle.code_sets.proofs.BitLaws.{has_zero}
use Rattle.judge_rows.specs.Rows.{between, single}
use Rattle.judge_rows.proofs.RunLaws.{back, clear_last, clear_turn, single_step, single_past}
use Rattle.judge_rows.proofs.TableLaws.{stored_down, at_new}
use Rattle.judge_rows.proofs.leaf_rows.Invariants.{runs}
use Rattle.judge_rows.proofs.leaf_rows.Goals as goal
use Rattle.judge_rows.proofs.leaf_rows.Goals.{then-episode-i, else-episode-i}

-- a turn at event i
module _ (a : ℕ) (e : List ℕ) (i run one run' one' j : ℕ) (l : i < length e) (s : i < 64)
    (hr : has run j ≡ runs a e (i + 1) j) (ho : has one j ≡ between (single a) e (i + 1) j) where
  abbrev Both : Type 0
  Both = (has (bit_or run' (1 * 2 ^ i % 2 ^ 64)) j ≡ runs a e i j) × (has one' j ≡ between (single a) e i j)

  both : (b : Bool) → eqb (get_or e i 0) a ≡ b → has run' j ≡ (not b && has run j) → has one' j ≡ pick b (has run j) (has one j) → Both
  both b q r o = (
    clear_turn (λ x. eqb x a) e i run' b j l s q (r ∙ ap (λ (t : Bool). not b && t) hr),
    o ∙ ap₂ (pick b) hr ho ∙ ap (λ (t : Bool). pick t (runs a e (i + 1) j) (between (single a) e (i + 1) j)) (sym q) ∙ sym (single_step a e i j l),
  )

  hit : get_or e i 0 ≡ a → run' ≡ 0 → one' ≡ run → Both
  hit q r o = both true (eq-eqb (get_or e i 0) a q) (ap (λ (x : ℕ). has x j) r ∙ has_zero j) (ap (λ (x : ℕ). has x j) o)

  miss : (get_or e i 0 ≡ a → ⊥) → run' ≡ run → one' ≡ one → Both
  miss q r o = both false (ne_eqb (get_or e i 0) a q) (ap (λ (x : ℕ). has x j) r) (ap (λ (x : ℕ). has x j) o)

pub loop-i-init : goal.loop-i-init
loop-i-init c = let e = c.args.episode.now in
    let a = c.args.code in
    let l : length e < 64 = omega arith in (
      omega arith,
      refl,
      λ j. clear_last (λ x. eqb x a) e j l,
      λ j. has_zero j ∙ sym (single_past a e (length e) j (omega arith)),
      λ k j g. at_new 64 k j ∙ sym (single_past a e k j g),
    )

pub loop-i-preserved : goal.loop-i-preserved
loop-i-preserved c = let x = c.args in
    let l = c.loop-i in
    let e = x.episode.now in
    let a = x.code in
    let i = l.i - 1 in
    let p : 0 < l.i = omega arith in
    let li : i < length e = omega arith in
    let si : i < 64 = omega arith in
    let q = back l.i p in
    let turn : (j : ℕ) → Both a e i l.run l.one c.if-episode-i.run c.if-episode-i.one j li si
    (l.invariant.2 j ∙ ap (λ (m : ℕ). runs a e m j) q) (l.invariant.3 j ∙ ap (λ (m : ℕ). between (single a) e m j) q) =
    λ j. let hr = l.invariant.2 j ∙ ap (λ (m : ℕ). runs a e m j) q in let ho = l.invariant.3 j ∙ ap (λ (m : ℕ). between (single a) e m j) q in
    elim c.if-episode-i.branch [ then-episode-i w ↦ hit a e i l.run l.one c.if-episode-i.run c.if-episode-i.one j li si hr ho w.if-episode-i.true w.run-is w.one-is | else-episode-i w ↦ miss a e i l.run l.one c.if-episode-i.run c.if-episode-i.one j li si hr ho w.if-episode-i.false w.run-is w.one-is ] in (
      omega arith,
      length-set l.rows i _ ∙ l.invariant.1,
      λ j. (turn j).0,
      λ j. (turn j).1,
      stored_down l.rows i c.if-episode-i.one (omega arith) (λ k j t. t ≡ between (single a) e k j) (λ j. (turn j).1) (λ k j g. l.invariant.4 k j (omega arith)),
    )

pub returns : goal.returns
returns c i j = c.loop-i.invariant.4 i j (omega arith)
