use mathlib.Core.Path.{◌∙◌}
use borrow.Author.Rules.{rules}
use borrow.Author.Tests.{eq-eqb}
use Rattle.rules.specs.Calls.{code_count}
use Rattle.cut_redos.proofs.RedoLaws.{faces_none, faces_some}
use Rattle.cut_redos.proofs.facing.Goals as goal

pub returns-then-met-eq0 : goal.returns-then-met-eq0
returns-then-met-eq0 c = let a = c.args in eq-eqb _ 0 c.if-met-eq0.true ∙ faces_none code_count a.border a.edges a.gates c.if-met-eq0.true

pub returns-else-met-eq0 : goal.returns-else-met-eq0
returns-else-met-eq0 c = let a = c.args in faces_some code_count a.border a.edges a.gates (search rules) (search rules) (search rules) c.if-met-eq0.false
