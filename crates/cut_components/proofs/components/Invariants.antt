use Prim.Native.Nat.{ℕ, ◌+◌, ◌-◌, ◌≤◌}
use mathlib.Core.Path.{◌≡◌}
use mathlib.Core.List.{List}
use Rattle.rules.specs.Words.{keep, from}
use Rattle.rules.specs.Mining as mining
use Rattle.rules.specs.Calls.{code_count}
use Rattle.code_sets.specs.Bits.{has}
use Rattle.graph_rows.specs.Edges.{edge_of}
use Rattle.cut_parts.specs.Sets.{lists_of}
use Rattle.cut_components.specs.Joined.{bonded}
use Rattle.cut_components.specs.declared.Bond.{Bond}
use Rattle.cut_components.proofs.components.Given as goal

abbrev pub related : Bond → List ℕ → List ℕ → mining.Rel
related bond rows cols a b = bonded bond (edge_of rows a b) (edge_of cols a b)

abbrev pub invariant-loop-c : goal.invariant-loop-c
invariant-loop-c l = (l.parts.n + l.c ≤ code_count) × (lists_of l.parts ≡ mining.components (related l.bond l.rows l.cols) (keep (has l.within.bits) (from l.c (code_count - l.c))))
