use borrow.Author.Rules.{rules}
use Rattle.rules.specs.Calls.{code_count}
use Rattle.code_sets.proofs.BitLaws.{ones_count}
use Rattle.code_sets.proofs.CodeSet.count.Goals as goal

pub returns : goal.returns
returns c = ones_count code_count c.args.self.bits (search rules)
