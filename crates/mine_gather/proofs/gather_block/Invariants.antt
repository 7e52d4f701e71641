use mathlib.Core.Path.{◌≡◌}
use Prim.Native.Nat.{◌-◌, ◌≤◌}
use lib.ListN.{length, get_or}
use Rattle.rules.specs.Words.{part}
use Rattle.rules.specs.Refusals.{Given}
use Rattle.rules.specs.LogBlock.{records_at, episodes_at, block_episodes}
use Rattle.rules.specs.Calls.{top_code}
use Rattle.mine_gather.specs.Gathering.{Gathered}
use Rattle.mine_gather.proofs.gather_block.Given as goal

abbrev pub invariant-loop : goal.invariant-loop
invariant-loop l = (l.block ≡ part l.log l.base 512) × Given (records_at l.w top_code (get_or (part l.log l.base 512) 0 0 - l.counter) (part l.log l.base 512) l.at) × (length (block_episodes l.w (part l.log l.base 512)) ≤ 255)
    × Gathered l.w l.log (block_episodes l.w (part l.log l.base 512)) (episodes_at l.w (get_or (part l.log l.base 512) 0 0 - l.counter) (part l.log l.base 512) l.at) l.n l.initial.work l.m l.work
