use Rattle.rules.specs.Calls.{code_count}
use Rattle.code_sets.proofs.BitLaws.{has_or}
use Rattle.cut_components.proofs.SweepLaws.{has_alike, has_not_both}
use borrow.Author.Rules.{rules}
use Rattle.cut_components.proofs.bonds.Goals as goal

pub returns-in-Either : goal.returns-in-Either
returns-in-Either c b l = let a = c.args in rw c.in-Either.is (has_or a.out a.into b)

pub returns-in-Alike : goal.returns-in-Alike
returns-in-Alike c b l = let a = c.args in rw c.in-Alike.is (has_alike code_count a.out a.into b (search rules) (search rules) l)

pub returns-in-NotBoth : goal.returns-in-NotBoth
returns-in-NotBoth c b l = let a = c.args in rw c.in-NotBoth.is (has_not_both code_count a.out a.into b (search rules) (search rules) l)
