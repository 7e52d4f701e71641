use mathlib.Core.Path.{◌≡◌, sym, ap, subst, ◌∙◌}
use mathlib.Core.List.{List}
use Prim.Native.Nat.{ℕ, ◌+◌, ◌-◌, ◌<◌}
use native.Mathlib.Nat.{add-sub_cancel_left}
use native.Mathlib.Omega.{arith}
use lib.ListN.{length, get_or}
use Rattle.rules.specs.Words.{part}
use Rattle.rules.specs.Refusals.{Given}
use Rattle.rules.specs.LogBlock.{frame_at, block_episodes}
use Rattle.rules.specs.Calls.{top_code}
use Rattle.rules.specs.Mining.{Log}
use Rattle.block_seal.proofs.PartLaws.{length_part}
use Rattle.log_episodes.proofs.EpisodeLaws.{episodes_end, met_frame, met_next}
use Rattle.mine_gather.specs.Gathering.{Gathered}
use Rattle.mine_gather.proofs.BlockLaws.{episodes_left, block_place, block_recorded, block_next}
use Rattle.mine_gather.proofs.GatherLaws.{gather_start, gather_next}
use Rattle.mine_gather.proofs.gather_block.Goals as goal

pub loop-init : goal.loop-init
loop-init c = let a = c.args in
    let whole = ap (part a.log.now a.base) (add-sub_cancel_left a.base 512) in
    let sound = c.requires.3 in
    let first = ap (λ (b : List ℕ). get_or b 0 0) whole in
    let all : get_or (part a.log.now a.base 512) 0 0 - 0 ≡ get_or (part a.log.now a.base 512) 0 0 = omega arith in
    (whole, rw all sound, omega (arith, first, episodes_left a.w (part a.log.now a.base 512) 1 _ c.requires.4.some sound, c.type_inv.block 0), rw all (gather_start a.w a.log.now _ a.n a.work.now c.requires.4.all))

pub overflow_add-base : goal.overflow_add-base
overflow_add-base c = let a = c.args in
    let l = c.loop in
    let left = get_or (part a.log.now a.base 512) 0 0 - l.counter in
    let first = ap (λ (b : List ℕ). get_or b 0 0) l.invariant.0 in
    let some : 0 < left = omega (arith, first) in
    omega (arith, c.requires.1, c.requires.2, block_place a.w c.requires.4.some c.requires.4.few a.log.now a.base c.requires.1 l.at left l.invariant.1 some)

pub list_place-m-requires : goal.list_place-m-requires
list_place-m-requires c = let a = c.args in
    let l = c.loop in
    let left = get_or (part a.log.now a.base 512) 0 0 - l.counter in
    let first = ap (λ (b : List ℕ). get_or b 0 0) l.invariant.0 in
    let some : 0 < left = omega (arith, first) in
    let sound = l.invariant.1 in
    let g = l.invariant.3 in (
      omega (arith, l.invariant.2, g.few, c.requires.0, episodes_left a.w (part a.log.now a.base 512) l.at left c.requires.4.some sound),
      omega (arith, c.requires.1, c.requires.2, block_place a.w c.requires.4.some c.requires.4.few a.log.now a.base c.requires.1 l.at left l.invariant.1 some),
      block_recorded a.w c.requires.4.some c.requires.4.few a.log.now a.base c.requires.1 l.at left sound some,
      record { some = c.requires.4.some; few = c.requires.4.few; room = omega (arith, g.size, c.requires.4.room); all = g.all },
    )

pub next_record-at-requires : goal.next_record-at-requires
next_record-at-requires c = let a = c.args in
    let l = c.loop in
    let left = get_or (part a.log.now a.base 512) 0 0 - l.counter in
    let first = ap (λ (b : List ℕ). get_or b 0 0) l.invariant.0 in
    let some : 0 < left = omega (arith, first) in (
      ap length l.invariant.0 ∙ length_part a.log.now a.base 512 c.requires.1,
      c.requires.4.few,
      subst (λ (b : List ℕ). Given (frame_at a.w b l.at)) (sym l.invariant.0) (met_frame a.w top_code (part a.log.now a.base 512) l.at left l.invariant.1 some),
    )

pub loop-preserved : goal.loop-preserved
loop-preserved c = let a = c.args in
    let l = c.loop in
    let left = get_or (part a.log.now a.base 512) 0 0 - l.counter in
    let first = ap (λ (b : List ℕ). get_or b 0 0) l.invariant.0 in
    let some : 0 < left = omega (arith, first) in
    let b = part a.log.now a.base 512 in
    let rest : get_or (part a.log.now a.base 512) 0 0 - (l.counter + 1) ≡ left - 1 = omega arith in
    let call = c.next_record-at.ensures ∙ ap (λ (s : List ℕ). frame_at a.w s l.at) l.invariant.0 in
    let here = block_next a.w c.requires.4.some c.requires.4.few a.log.now a.base c.requires.1 l.at left l.invariant.1 some _ call in
    rw rest (
      l.invariant.0,
      met_next a.w top_code b l.at left l.invariant.1 some _ call,
      l.invariant.2,
      gather_next a.w a.log.now (block_episodes a.w b) _ _ a.n a.work.now l.m l.work _ _ (subst (λ (r : Log). Gathered a.w a.log.now (block_episodes a.w b) r a.n a.work.now l.m l.work) here l.invariant.3) c.list_place-m.ensures,
    )

pub returns : goal.returns
returns c = let a = c.args in
    let l = c.loop in
    let left = get_or (part a.log.now a.base 512) 0 0 - l.counter in
    let first = ap (λ (b : List ℕ). get_or b 0 0) l.invariant.0 in
    let b = part a.log.now a.base 512 in
    let g = l.invariant.3 in
    (omega (arith, l.invariant.2, g.few), subst (λ (r : Log). Gathered a.w a.log.now (block_episodes a.w b) r a.n a.work.now l.m l.work) (episodes_end a.w b l.at left (omega (arith, first))) g)
