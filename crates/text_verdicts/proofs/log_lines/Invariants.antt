use mathlib.Core.Path.{◌≡◌}
use mathlib.Core.List.{List}
use Prim.Native.Nat.{ℕ, ◌+◌, ◌-◌, ◌*◌, ◌/◌, ◌≤◌}
use lib.ListN.{length}
use Rattle.std.specs.Slice.Iter.{chunks_exact_rest, chunks_exact_size}
use Rattle.rules.specs.Refusals.{Given}
use Rattle.rules.specs.LogBlock.{blocks_at, episodes_from, log_episodes}
use Rattle.rules.specs.Calls.{top_code}
use Rattle.text_verdicts.specs.Lines.{Lines}
use Rattle.text_verdicts.proofs.LineLaws.{BlocksLeft}
use Rattle.text_verdicts.proofs.log_lines.Given as goal

abbrev pub invariant-loop-block : goal.invariant-loop-block
invariant-loop-block l =
    let rest : List ℕ = chunks_exact_rest l.block-iterator in
    let base : ℕ = length l.log - length rest in
    (chunks_exact_size l.block-iterator ≡ 512)
    × BlocksLeft l.log rest base
    × Given (blocks_at 1 top_code (length rest / 512) l.log base)
    × (l.number + 255 * (length rest / 512) ≤ 4081)
    × Lines l.tree (log_episodes 1 l.log) (episodes_from 1 (length rest / 512) l.log base) 1 l.number l.initial.text 0 l.text l.next
