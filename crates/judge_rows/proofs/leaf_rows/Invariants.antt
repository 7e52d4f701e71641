use Prim.Native.Nat.{ℕ, ◌≤◌}
use mathlib.Core.List.{List}
use mathlib.Core.Path.{◌≡◌}
use mathlib.Core.Bool.{Bool}
use lib.ListN.{length}
use lib.Dec.{eqb}
use Rattle.code_sets.specs.Bits.{has}
use Rattle.judge_rows.specs.Rows.{at, between, clear, single}
use Rattle.judge_rows.proofs.leaf_rows.Given as goal

-- The invariant: the rows from i on are right, `one` is row i, and `run` has the places up to the next such event.
abbrev pub runs : ℕ → List ℕ → ℕ → ℕ → Bool
runs a = between (clear (λ x. eqb x a))

abbrev pub invariant-loop-i : goal.invariant-loop-i
invariant-loop-i l = (l.i ≤ length l.episode) × (length l.rows ≡ 64) × ((j : ℕ) → has l.run j ≡ runs l.code l.episode l.i j) × ((j : ℕ) → has l.one j ≡ between (single l.code) l.episode l.i j)
    × ((k j : ℕ) → l.i ≤ k → at l.rows k j ≡ between (single l.code) l.episode k j)
