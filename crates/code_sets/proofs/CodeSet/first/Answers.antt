use mathlib.Core.Path.{◌∙◌}
use native.Mathlib.Omega.{arith}
use Rattle.rules.specs.Calls.{code_count}
use Rattle.code_sets.proofs.HeadLaws.{head_least, head_none}
use borrow.Author.Rules.{rules}
use Rattle.code_sets.proofs.CodeSet.first.Goals as goal

pub returns-then-c-lt-WIDTH : goal.returns-then-c-lt-WIDTH
returns-then-c-lt-WIDTH c = (search rules, c.smallest-c.ensures ∙ head_least code_count c.args.self.bits (omega (arith, c.smallest-c.ensures)))

pub returns : goal.returns
returns c = (search rules, head_none code_count c.args.self.bits (omega (arith, c.smallest-c.ensures)))
