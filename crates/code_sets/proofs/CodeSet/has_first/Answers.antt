use Rattle.code_sets.specs.Bits.{has}
use borrow.Author.Rules.{rules}
use Rattle.code_sets.proofs.CodeSet.has_first.Goals as goal

pub returns : goal.returns
unfolding has
returns c = search rules
