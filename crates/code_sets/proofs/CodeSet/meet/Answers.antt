use Rattle.code_sets.proofs.BitLaws.{has_and}
use Rattle.code_sets.proofs.CodeSet.meet.Goals as goal

pub returns : goal.returns
returns c i = has_and c.args.self.bits c.args.other.bits i
