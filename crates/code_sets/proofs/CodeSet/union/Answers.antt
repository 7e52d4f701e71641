use Rattle.code_sets.proofs.BitLaws.{has_or}
use Rattle.code_sets.proofs.CodeSet.union.Goals as goal

pub returns : goal.returns
returns c i = has_or c.args.self.bits c.args.other.bits i
