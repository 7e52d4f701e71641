use mathlib.Core.Path.{sym}
use Rattle.rules.specs.Calls.{code_count}
use Rattle.code_sets.proofs.BitLaws.{has_high}
use borrow.Author.Rules.{rules}
use Rattle.code_sets.proofs.CodeSet.has.Goals as goal

pub returns : goal.returns
returns c = sym (has_high code_count c.args.self.bits c.args.c (search rules) (search rules))
