use mathlib.Core.Path.{◌≡◌}
use Prim.Native.Nat.{◌+◌, ◌-◌}
use lib.ListN.{get_or}
use Rattle.rules.specs.Refusals.{Given}
use Rattle.rules.specs.LogBlock.{records_at, episodes_at, block_episodes}
use Rattle.rules.specs.Calls.{top_code}
use Rattle.text_verdicts.specs.Lines.{Lines}
use Rattle.text_verdicts.proofs.block_lines.Given as goal

abbrev pub invariant-loop-number : goal.invariant-loop-number
invariant-loop-number l = Given (records_at 1 top_code (l.number-end - l.number) l.block l.place)
    × (l.number-end ≡ l.first + get_or l.block 0 0)
    × Lines l.tree (block_episodes 1 l.block) (episodes_at 1 (l.number-end - l.number) l.block l.place) l.first l.number l.initial.text l.at l.text l.next
