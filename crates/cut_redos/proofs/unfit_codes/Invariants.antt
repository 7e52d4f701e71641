use Prim.Native.Nat.{ℕ}
use mathlib.Core.Path.{◌≡◌}
use mathlib.Core.Bool.{not, ◌&&◌}
use lib.Dec.{ltb}
use Rattle.rules.specs.Calls.{code_count}
use Rattle.code_sets.specs.Bits.{has, listed}
use Rattle.graph_rows.specs.Edges.{edge_of}
use Rattle.cut_redos.specs.Facing.{faces}
use Rattle.cut_redos.proofs.unfit_codes.Given as goal

abbrev pub invariant-loop-c : goal.invariant-loop-c
invariant-loop-c l = (x : ℕ) → has l.set x ≡ (ltb x l.c && not (faces (edge_of l.g.rows x) (has l.starts) (listed code_count l.border) && faces (edge_of l.cols x) (has l.ends) (listed code_count l.border)))
