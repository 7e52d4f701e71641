use Prim.Native.Nat.{◌+◌, ◌-◌, ◌*◌, ◌/◌, ◌≤◌}
use lib.ListN.{length}
use Rattle.rules.specs.Refusals.{Given}
use Rattle.rules.specs.LogBlock.{blocks_at, episodes_from, log_episodes}
use Rattle.rules.specs.Calls.{top_code}
use Rattle.mine_gather.specs.Gathering.{Gathered}
use Rattle.mine_gather.proofs.gather.Given as goal

abbrev pub invariant-loop-i : goal.invariant-loop-i
invariant-loop-i l = Given (blocks_at l.w top_code (length l.log / 512 - l.i) l.log (512 * l.i)) × (l.n + 255 * (length l.log / 512 - l.i) ≤ 4080)
    × Gathered l.w l.log (log_episodes l.w l.log) (episodes_from l.w (length l.log / 512 - l.i) l.log (512 * l.i)) 0 l.initial.work l.n l.work
