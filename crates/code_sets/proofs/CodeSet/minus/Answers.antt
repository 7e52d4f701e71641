use borrow.Author.Rules.{rules}
use Rattle.rules.specs.Calls.{code_count}
use Rattle.code_sets.proofs.BitLaws.{has_minus}
use Rattle.code_sets.proofs.CodeSet.minus.Goals as goal

pub returns : goal.returns
returns c i = has_minus code_count c.args.self.bits c.args.other.bits i (search rules) (search rules)
