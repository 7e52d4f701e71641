use native.Mathlib.Omega.{arith}
use mathlib.Core.Path.{ap}
use lib.ListN.{length}
use borrow.Author.Rules.{rules}
use Rattle.rules.specs.Calls.{code_count}
use Rattle.code_sets.proofs.ListedLaws.{listed_none}
use Rattle.code_sets.proofs.HeadLaws.{walk_turn}
use Rattle.code_sets.proofs.CodesIterator.next.Goals as goal

pub returns-then-self-eq0-clause-steps : goal.returns-then-self-eq0-clause-steps
returns-then-self-eq0-clause-steps c = let e = listed_none code_count c.args.self.now.left c.if-self-eq0.true in (e, e)

pub returns-clause-steps : goal.returns-clause-steps
returns-clause-steps c = walk_turn code_count c.args.self.now.left c.first-c.result (search rules) (search rules) c.first-c.ensures.1

pub returns-clause-goes : goal.returns-clause-goes
returns-clause-goes c =
    let x = c.args.self.now.left in
    let e = walk_turn code_count x c.first-c.result (search rules) (search rules) c.first-c.ensures.1 in
    record { on = λ _. (tt, tt, omega (arith, ap length e)); keeps = tt; rests = λ _. tt }
