use Prim.Native.Nat.{ℕ, ◌-◌}
use mathlib.Core.Path.{◌≡◌}
use Rattle.rules.specs.Words.{from}
use Rattle.rules.specs.Mining.{through}
use Rattle.rules.specs.Calls.{code_count}
use Rattle.graph_rows.specs.Edges.{edge_of}
use Rattle.graph_rows.proofs.TableLaws.{Table}
use Rattle.graph_reach.proofs.reach.Given as goal

abbrev pub invariant-loop-k : goal.invariant-loop-k
invariant-loop-k l = Table code_count l.rows × ((a b : ℕ) → edge_of l.rows a b ≡ through (from 0 code_count) (from l.k (code_count - l.k)) (edge_of l.initial.rows) a b)
