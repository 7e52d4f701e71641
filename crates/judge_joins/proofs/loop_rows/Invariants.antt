use Prim.Native.Nat.{ℕ, ◌≤◌, ◌<◌}
use mathlib.Core.Path.{◌≡◌}
use mathlib.Core.Bool.{false}
use lib.ListN.{length}
use Rattle.judge_rows.specs.Rows.{at, Loops, Upper, Says}
use Rattle.judge_joins.proofs.LoopLaws.{Tail}
use Rattle.judge_joins.proofs.loop_rows.Given as goal

-- The invariant: the rows and the tails from i on are right, and those before are empty.
abbrev pub invariant-loop-i : goal.invariant-loop-i
invariant-loop-i l = (l.i ≤ 64) × (length l.rows ≡ 64) × (length l.tails ≡ 64) × ((k j : ℕ) → k < l.i → at l.rows k j ≡ false) × ((k j : ℕ) → k < l.i → at l.tails k j ≡ false)
    × (Upper (at l.a) → Upper (at l.b) → (k j : ℕ) → l.i ≤ k → Says (at l.rows k j) (Loops (at l.a) (at l.b) k j))
    × (Upper (at l.a) → Upper (at l.b) → (k j : ℕ) → l.i ≤ k → Says (at l.tails k j) (Tail (at l.a) (at l.b) k j))
