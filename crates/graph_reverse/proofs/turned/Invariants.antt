use Prim.Native.Nat.{ℕ}
use mathlib.Core.Path.{◌≡◌}
use mathlib.Core.Bool.{◌||◌, ◌&&◌}
use lib.Dec.{eqb}
use Rattle.rules.specs.Words.{mem}
use Rattle.rules.specs.Calls.{code_count}
use Rattle.code_sets.specs.Bits.{listed}
use Rattle.graph_rows.specs.Edges.{edge_of}
use Rattle.graph_reverse.proofs.turned.Given as goal

-- the whole is what is turned and what is left
abbrev pub invariant-loop-c : goal.invariant-loop-c
invariant-loop-c l = (c b : ℕ) → (edge_of l.initial.out c b || (mem c (listed code_count l.row) && eqb b l.a)) ≡ (edge_of l.out c b || (mem c (listed code_count l.c-iterator.left) && eqb b l.a))
