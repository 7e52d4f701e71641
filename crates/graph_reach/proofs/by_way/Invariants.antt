use Prim.Native.Nat.{ℕ}
use mathlib.Core.Path.{◌≡◌}
use mathlib.Core.List.{List}
use mathlib.Core.Bool.{◌||◌, ◌&&◌}
use Rattle.code_sets.specs.Bits.{has}
use Rattle.graph_rows.specs.Edges.{edge_of}
use Rattle.graph_rows.proofs.TableLaws.{Filled}
use Rattle.graph_reach.proofs.by_way.Given as goal

-- row j is v after the code k
abbrev pub by_way : List ℕ → ℕ → ℕ → ℕ → Type 0
by_way rows k j v = (b : ℕ) → has v b ≡ (edge_of rows j b || (edge_of rows j k && edge_of rows k b))

abbrev pub invariant-loop-row : goal.invariant-loop-row
invariant-loop-row l = Filled (by_way l.initial.row-items l.k) l.initial.row-items l.row-index l.row-items
