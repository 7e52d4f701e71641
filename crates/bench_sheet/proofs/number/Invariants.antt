use mathlib.Core.Path.{◌≡◌}
use lib.ListN.{drop}
use Rattle.bench_sheet.specs.Words.{number_from, number_of}
use Rattle.bench_sheet.proofs.number.Given as goal

abbrev pub invariant-loop-b : goal.invariant-loop-b
invariant-loop-b l = number_from (drop l.b-index l.line) l.left l.n ≡ number_of l.line l.k
