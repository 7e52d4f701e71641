use mathlib.Core.Path.{ap, ◌∙◌}
use mathlib.Core.Bool.{Bool, ◌||◌, ◌&&◌}
use lib.Dec.{eqb, ltb}
use Rattle.rules.specs.Calls.{code_count}
use Rattle.code_sets.proofs.BitLaws.{has_zero}
use Rattle.code_sets.proofs.CodeSet.one.Goals as goal

pub returns : goal.returns
returns c i = c.with.ensures i ∙ ap (λ (t : Bool). t || (ltb c.args.c code_count && eqb i c.args.c)) (has_zero i)
