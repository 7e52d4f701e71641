use borrow.Author.Rules.{rules}
use mathlib.Core.Path.{◌≡◌, subst, ◌∙◌}
use Prim.Native.Nat.{◌+◌, ◌-◌, ◌*◌, ◌/◌, ◌<◌}
use lib.ListN.{length}
use native.Mathlib.Omega.{arith}
use Rattle.rules.specs.Mining.{Log}
use Rattle.rules.specs.LogBlock.{log_episodes}
use Rattle.rules.specs.Calls.{top_code}
use Rattle.log_episodes.proofs.EpisodeLaws.{log_sound_lem, blocks_sound, blocks_episodes_end}
use Rattle.mine_gather.specs.Gathering.{Gathered}
use Rattle.mine_gather.proofs.BlockLaws.{block_here, blocks_here}
use Rattle.mine_gather.proofs.GatherLaws.{gather_start, gather_next, gather_whole}
use Rattle.mine_gather.proofs.gather.Goals as goal

pub loop-i-init : goal.loop-i-init
loop-i-init c = let a = c.args in
    let cleared = c.clear_hints in
    let all : length a.log.now / 512 - 0 ≡ length a.log.now / 512 = omega arith in
    rw all (log_sound_lem a.w a.log.now c.requires.4, omega (arith, c.requires.2), unfold log_episodes in gather_start a.w a.log.now (log_episodes a.w a.log.now) 0 cleared.new.work tt)

pub gather_block-n-requires : goal.gather_block-n-requires
gather_block-n-requires c = let a = c.args in
    let l = c.loop-i in
    let g = l.invariant.2 in (
      omega (arith, l.invariant.1),
      omega arith,
      c.requires.2,
      block_here a.w a.log.now (512 * l.i) (length a.log.now / 512 - l.i) l.invariant.0 (omega arith),
      record { some = c.requires.0; few = c.requires.1; room = omega (arith, g.size, c.requires.3); all = search rules },
    )

pub loop-i-preserved : goal.loop-i-preserved
loop-i-preserved c = let a = c.args in
    let cleared = c.clear_hints in
    let l = c.loop-i in
    let base = 512 * l.i in
    let left = length a.log.now / 512 - l.i in
    let some : 0 < left = omega arith in
    let rest : length a.log.now / 512 - (l.i + 1) ≡ left - 1 = omega arith in
    let next : 512 * (l.i + 1) ≡ base + 512 = omega arith in
    let block = c.gather_block-n.ensures in
    rw (rest, next) (
      blocks_sound a.w top_code a.log.now base left l.invariant.0 some,
      omega (arith, l.invariant.1, block.0),
      gather_next a.w a.log.now (log_episodes a.w a.log.now) _ _ 0 cleared.new.work l.n l.work _ _
          (subst (λ (r : Log). Gathered a.w a.log.now (log_episodes a.w a.log.now) r 0 cleared.new.work l.n l.work) (blocks_here a.w a.log.now base left some) l.invariant.2) block.1,
    )

pub returns : goal.returns
returns c = let a = c.args in
    let cleared = c.clear_hints in
    let l = c.loop-i in
    let g = subst (λ (r : Log). Gathered a.w a.log.now (log_episodes a.w a.log.now) r 0 cleared.new.work l.n l.work) (blocks_episodes_end a.w a.log.now (512 * l.i) (length a.log.now / 512 - l.i) (omega arith)) l.invariant.2 in
    let same = gather_whole a.w a.log.now (log_episodes a.w a.log.now) cleared.new.work l.n l.work g in
    (g.size ∙ cleared.ensures, record { few = omega (arith, l.invariant.1); listed = record { few = c.requires.1; all = g.all }; same = same })
