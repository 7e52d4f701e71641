use borrow.Author.Tests.{eq-eqb, ne_eqb}
use Rattle.code_sets.specs.Bits.{has}
use Rattle.graph_reach.proofs.ReachLaws.{step_taken, step_left}
use Rattle.graph_reach.proofs.stepped.Goals as goal

pub returns-then-row-k-eq1 : goal.returns-then-row-k-eq1
unfolding has
returns-then-row-k-eq1 c b = step_taken c.args.row c.args.by c.args.k b (eq-eqb _ 1 c.if-row-k-eq1.true)

pub returns-else-row-k-eq1 : goal.returns-else-row-k-eq1
unfolding has
returns-else-row-k-eq1 c b = step_left c.args.row c.args.by c.args.k b (ne_eqb _ 1 c.if-row-k-eq1.false)
