use mathlib.Core.Path.{sym, ◌∙◌}
use mathlib.Core.Bool.{not}
use lib.Dec.{eqb}
use borrow.Author.Rules.{rules}
use borrow.Author.Tests.{tests}
use Rattle.std.proofs.lemmas.Iterator.Consumers.{YieldsList-at, YieldsList-from_filter}
use Rattle.rules.specs.Heartbeats.{heartbeat}
use Rattle.mine_places.proofs.CodesLaws.{YieldsList-from_codes}
use Rattle.mine_gather.proofs.SameLaws.{same_from_eq, filter_without}
use Rattle.mine_gather.proofs.same_without.Goals as goal

pub returns : goal.returns
returns c e = let a = c.args in
    sym (filter_without _)
    ∙ same_from_eq c.eq.ensures.ran
    (YieldsList-from_filter _ (λ x. not (eqb x heartbeat)) (YieldsList-at c.filter-mine.ensures.source (YieldsList-from_codes _ a.w a.a.now (search rules) (search rules) (search rules))) c.filter-mine.ensures.closure (λ x b q k. search (rules, tests)))
    (YieldsList-from_filter _ (λ x. not (eqb x heartbeat)) (YieldsList-at c.filter-other.ensures.source (YieldsList-from_codes _ a.w a.b.now (search rules) (search rules) (search rules))) c.filter-other.ensures.closure (λ x b q k. search (rules, tests)))
    e
    ∙ filter_without _
