use mathlib.Core.Path.{◌≡◌}
use lib.ListN.{drop}
use Rattle.bench_sheet.specs.Words.{from_value}
use Rattle.bench_sheet.proofs.from_value.Given as goal

abbrev pub invariant-loop-i : goal.invariant-loop-i
invariant-loop-i l = from_value (drop l.i l.line) l.before ≡ from_value l.line l.k
