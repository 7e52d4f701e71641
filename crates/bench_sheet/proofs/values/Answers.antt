use mathlib.Core.Path.{◌≡◌, ◌∙◌}
use lib.Dec.{eqb}
use borrow.Author.Rules.{rules}
use Rattle.std.specs.List.{count_by}
use Rattle.bench_sheet.proofs.WordLaws.{values_count}
use Rattle.bench_sheet.proofs.values.Goals as goal

pub returns : goal.returns
returns c =
    let e : c.count.result ≡ count_by (λ b. eqb b 32) c.args.line.now = search rules in
    e ∙ values_count _
