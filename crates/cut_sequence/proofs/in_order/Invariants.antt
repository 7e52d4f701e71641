use Prim.Native.Nat.{◌+◌}
use mathlib.Core.Path.{◌≡◌}
use lib.ListN.{length, take}
use Rattle.std.specs.Iterator.Adapters.{rev_source}
use Rattle.std.specs.Slice.Iter.{iter_rest}
use Rattle.rules.specs.Calls.{code_count}
use Rattle.graph_rows.specs.Edges.{edge_of}
use Rattle.cut_parts.specs.Sets.{sets_of}
use Rattle.cut_sequence.proofs.OrderLaws.{Sorted}
use Rattle.cut_sequence.proofs.in_order.Given as goal

abbrev pub invariant-loop-part : goal.invariant-loop-part
invariant-loop-part l = let left = iter_rest (rev_source l.part-iterator) in
    (l.out.n + length left ≡ l.fn.parts.n) × Sorted code_count (edge_of l.to) (take l.fn.parts.n l.fn.parts.sets) left (sets_of l.out)
