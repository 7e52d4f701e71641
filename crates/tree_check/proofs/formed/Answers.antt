use native.Mathlib.Omega.{arith}
use Rattle.tree_check.proofs.CheckingLaws.{formed_broken, formed_after, formed_here}
use Rattle.tree_check.proofs.formed.Goals as goal

pub returns-in_default : goal.returns-in_default
returns-in_default c = formed_broken _ _ c.none.ensures c.in_default.ensures

pub returns-then-first_set-end : goal.returns-then-first_set-end
returns-then-first_set-end c = formed_after _ _ c.none.ensures _ c.in-Some.ensures _ c.first_set.ensures (omega arith)

pub returns : goal.returns
returns c = formed_here _ _ c.none.ensures _ c.in-Some.ensures _ c.first_set.ensures (omega arith)
