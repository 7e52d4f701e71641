use mathlib.Core.Path.{◌≡◌, refl}
use Prim.Native.Nat.{◌+◌, ◌-◌, ◌<◌}
use lib.ListN.{get_or}
use native.Mathlib.Omega.{arith}
use borrow.Author.Rules.{rules}
use Rattle.log_episodes.proofs.EpisodeLaws.{met_frame, met_next}
use Rattle.text_verdicts.proofs.GivenLaws.{met_lent}
use Rattle.text_verdicts.proofs.LineLaws.{lines_none, record_lines, records_all}
use Rattle.text_verdicts.proofs.block_lines.Goals as goal

pub loop-number-init : goal.loop-number-init
loop-number-init c =
    let e : c.args.first + c.from.result - c.args.first ≡ get_or c.args.block.now 0 0 = omega arith in
    rw e (search rules, omega arith, lines_none _ _ _ _ _ _ refl)

pub next_record-after-requires : goal.next_record-after-requires
next_record-after-requires c = let h : 0 < c.args.first + c.from.result - c.loop-number.number = omega arith in (search rules, omega arith, search met_frame depth 7)

pub verdict_line-next-requires : goal.verdict_line-next-requires
verdict_line-next-requires c = let h : 0 < c.args.first + c.from.result - c.loop-number.number = omega arith in (search rules, search met_lent depth 7, search rules, search rules)

pub loop-number-preserved : goal.loop-number-preserved
loop-number-preserved c = let l = c.loop-number in
    let end = c.args.first + c.from.result in
    let next = c.next_record-after.ensures in
    let byte = c.type_inv.block 0 in
    let h : 0 < end - l.number = omega arith in
    let e : end - (l.number + 1) ≡ end - l.number - 1 = omega arith in
    rw e (search met_next depth 7, omega arith, record_lines _ _ _ _ c.requires.2 next h (omega arith) l.invariant.2 c.verdict_line-next.ensures)

pub returns : goal.returns
returns c = records_all _ _ _ _ (omega arith) (omega arith) c.loop-number.invariant.2
