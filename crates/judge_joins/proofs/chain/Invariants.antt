use Prim.Native.Nat.{ℕ, ◌^◌, ◌<◌}
use mathlib.Core.List.{List}
use mathlib.Core.Path.{◌≡◌}
use mathlib.Core.Bool.{Bool, ◌&&◌, ◌||◌}
use lib.ListN.{get_or}
use Rattle.code_sets.specs.Bits.{has, any_below}
use Rattle.judge_joins.proofs.chain.Given as goal

-- The invariant: the union so far and that of the places left are the whole union.
abbrev pub reached : ℕ → List ℕ → ℕ → ℕ → Bool
reached left table j k = has left k && has (get_or table k 0) j

abbrev pub invariant-loop-x : goal.invariant-loop-x
invariant-loop-x l = (l.x < 2 ^ 64) × ((j : ℕ) → (has l.r j || any_below 64 (reached l.x l.table j)) ≡ any_below 64 (reached l.left l.table j))

abbrev pub decreases-loop-x : goal.decreases-loop-x
decreases-loop-x l = l.x
