use mathlib.Core.Path.{sym, ap, ◌∙◌}
use mathlib.Core.Bool.{◌||◌}
use denote.Enum.Bare.{same_true, same_false}
use borrow.Author.Rules.{rules}
use Rattle.rules.specs.contracts.Operator.{the_type}
use Rattle.code_sets.specs.Bits.{has}
use Rattle.mine_views.specs.Sublogs.{sight}
use Rattle.mine_views.proofs.OperatorLaws.{loop_known, plain_sight}
use Rattle.mine_views.proofs.part_of.Goals as goal

pub returns-then-eq : goal.returns-then-eq
returns-then-eq c l f = let a = c.args in
    loop_known a.part.bits (search rules) l (sight a.v) a.bare a.operator (same_true the_type (search rules) _ _ (sym c.eq.ensures ∙ c.if-eq.true)) f (has c.union-breaks.result.bits)
    (λ x. c.union-breaks.ensures x ∙ ap (◌||◌ (has a.v.breaks.bits x)) (c.minus.ensures x))

pub returns-else-eq : goal.returns-else-eq
returns-else-eq c l = let a = c.args in
    plain_sight a.part.bits (search rules) l (sight a.v) a.bare a.operator (same_false the_type _ _ (sym c.eq.ensures ∙ c.if-eq.false))
