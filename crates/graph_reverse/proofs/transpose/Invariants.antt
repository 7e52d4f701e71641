use Prim.Native.Nat.{ℕ}
use mathlib.Core.Path.{◌≡◌}
use mathlib.Core.Bool.{◌&&◌}
use lib.Dec.{ltb}
use lib.ListN.{length}
use Rattle.rules.specs.Calls.{code_count}
use Rattle.graph_rows.specs.Edges.{edge_of}
use Rattle.graph_reverse.proofs.transpose.Given as goal

-- the edges of the rows below a are turned
abbrev pub invariant-loop-a : goal.invariant-loop-a
invariant-loop-a l = (length l.out ≡ code_count) × ((c b : ℕ) → edge_of l.out c b ≡ (ltb b l.a && edge_of l.rows b c))
