use Prim.Native.Nat.{◌≤◌, ◌<◌}
use mathlib.Core.Path.{◌≡◌}
use lib.ListN.{length, drop}
use Rattle.judge_nodes.specs.Children.{Ready}
use Rattle.judge_fits.proofs.fill.Given as goal

-- The invariant: the entries from v on have their rows, and the work past all rows is as it was.
abbrev pub invariant-loop-v : goal.invariant-loop-v
invariant-loop-v l = (0 < l.v) × (l.v ≤ l.n) × (length l.work ≡ length l.initial.work) × Ready l.tree l.episode l.work l.v l.n × (drop 8128 l.work ≡ drop 8128 l.initial.work)
