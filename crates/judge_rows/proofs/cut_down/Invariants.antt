use Prim.Native.Nat.{ℕ, ◌≤◌}
use mathlib.Core.Path.{◌≡◌}
use lib.ListN.{length}
use Rattle.code_sets.specs.Bits.{has}
use Rattle.judge_rows.specs.Rows.{between, clear}
use Rattle.judge_rows.proofs.CutLaws.{Cut}
use Rattle.judge_rows.proofs.cut_down.Given as goal

-- The invariant: the rows from i on are cut down, and `run` has the places that row i keeps.
abbrev pub invariant-loop-i : goal.invariant-loop-i
invariant-loop-i l = (l.i ≤ length l.episode) × ((j : ℕ) → has l.run j ≡ between (clear (has l.blocked.bits)) l.episode l.i j)
    × Cut (has l.blocked.bits) l.episode l.fn.rows l.i l.rows
