use mathlib.Core.Path.{◌≡◌, refl, sym, ap, subst, ◌∙◌}
use mathlib.Core.List.{List}
use Prim.Native.Nat.{ℕ, ◌+◌, ◌-◌, ◌/◌, ◌<◌}
use native.Mathlib.Omega.{arith}
use borrow.Author.Rules.{rules}
use lib.ListN.{length, get_or, length-append}
use Rattle.std.specs.Slice.Iter.{chunks_exact_rest}
use Rattle.rules.specs.LogBlock.{log_episodes, records_at}
use Rattle.rules.specs.Refusals.{Given}
use Rattle.rules.specs.Calls.{top_code}
use Rattle.log_episodes.proofs.EpisodeLaws.{log_sound_lem, block_sound, blocks_sound}
use Rattle.text_verdicts.proofs.LineLaws.{lines_none, block_lines, log_lines, left_all, block_is, left_next}
use Rattle.text_verdicts.proofs.log_lines.Goals as goal

pub loop-block-init : goal.loop-block-init
unfolding log_episodes
loop-block-init c =
    let log = c.args.log.now in
    let rest : chunks_exact_rest c.into_iter-block-iterator.result ≡ log = search rules in
    let none : length log - length log ≡ 0 = omega arith in
    rw (rest, none) (search rules, left_all log, search log_sound_lem, omega arith, lines_none _ _ _ _ _ _ refl)

pub block_lines-next-requires : goal.block_lines-next-requires
block_lines-next-requires c =
    let l = c.loop-block in
    let i = l.invariant in
    let step = c.in-Some.ensures.steps in
    let size = step.1.1 ∙ i.0 in
    let log = c.args.log.now in
    let rest : List ℕ = chunks_exact_rest l.block-iterator in
    let room = ap length step.1.0 ∙ length-append c.in-Some.block.now (chunks_exact_rest c.next.new.self) in
    let h : 0 < length rest / 512 = omega (arith, room, size) in
    let is = block_is _ _ _ _ _ i.1 step.1.0 size in
    (search rules, subst (λ (s : List ℕ). Given (records_at 1 top_code (get_or s 0 0) s 1)) (sym is) (search block_sound depth 7), size, omega (arith, i.3), search rules, search rules)

pub loop-block-preserved : goal.loop-block-preserved
loop-block-preserved c =
    let l = c.loop-block in
    let i = l.invariant in
    let step = c.in-Some.ensures.steps in
    let size = step.1.1 ∙ i.0 in
    let log = c.args.log.now in
    let rest : List ℕ = chunks_exact_rest l.block-iterator in
    let after : List ℕ = chunks_exact_rest c.next.new.self in
    let room = ap length step.1.0 ∙ length-append c.in-Some.block.now after in
    let h : 0 < length rest / 512 = omega (arith, room, size) in
    let is = block_is _ _ _ _ _ i.1 step.1.0 size in
    let next = left_next _ _ _ _ _ i.1 step.1.0 size in
    let byte = c.type_inv.log 0 in
    let n : length after / 512 ≡ length rest / 512 - 1 = omega (arith, room, size) in
    let base : length log - length after ≡ length log - length rest + 512 = omega (arith, room, size, i.1.place) in
    let count : c.from-number.result ≡ get_or c.in-Some.block.now 0 0 = search rules in
    rw (n, base, count) (step.0 ∙ i.0, next, search blocks_sound depth 7, omega arith, block_lines log _ _ c.in-Some.block.now is h (omega arith) i.4 c.block_lines-next.ensures)

pub returns : goal.returns
returns c = let l = c.loop-block in let i = l.invariant in
    log_lines _ _ _ (omega (arith, c.in-None.ensures.steps.1.0, i.0)) (omega (arith, i.3)) (omega arith) i.4
