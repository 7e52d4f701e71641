use Prim.Native.Nat.{ℕ, ◌≤◌, ◌<◌}
use mathlib.Core.Path.{◌≡◌}
use lib.ListN.{length, get_or}
use Rattle.rules.specs.TreeBlock.{op_of}
use Rattle.judge_rows.specs.Rows.{at, joined_by}
use Rattle.judge_joins.proofs.join_rows.Given as goal

-- The invariant: the rows below i are joined, the others as they were.
abbrev pub invariant-loop-i : goal.invariant-loop-i
invariant-loop-i l = (length l.rows ≡ 64) × ((k j : ℕ) → k < l.i → at l.rows k j ≡ joined_by (op_of l.operator) (at l.initial.rows k) (at l.next) k j) × ((k : ℕ) → l.i ≤ k → get_or l.rows k 0 ≡ get_or l.initial.rows k 0)
