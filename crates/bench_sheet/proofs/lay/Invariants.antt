use mathlib.Core.Path.{◌≡◌}
use Prim.Native.Nat.{◌-◌}
use lib.Seq.{sets}
use Rattle.bench_sheet.specs.Words.{values_of, from_value, bytes_from, listed}
use Rattle.bench_sheet.proofs.lay.Given as goal

abbrev pub invariant-loop-k : goal.invariant-loop-k
invariant-loop-k l = (l.rest ≡ from_value l.line l.k) × (sets l.s l.at (bytes_from (values_of l.line - l.k) l.line l.k) ≡ sets l.initial.s l.place (listed l.line l.skip))
