use Rattle.rules.specs.Calls.{code_count}
use Rattle.code_sets.proofs.BitLaws.{has_every}
use Rattle.code_sets.proofs.CodeSet.every.Goals as goal

pub returns : goal.returns
returns c = has_every code_count
