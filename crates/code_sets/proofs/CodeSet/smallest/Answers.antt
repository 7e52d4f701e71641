use Rattle.rules.specs.Calls.{code_count}
use Rattle.code_sets.proofs.BitLaws.{trailing_least}
use Rattle.code_sets.proofs.CodeSet.smallest.Goals as goal

pub returns : goal.returns
returns c = trailing_least code_count c.args.self.bits
