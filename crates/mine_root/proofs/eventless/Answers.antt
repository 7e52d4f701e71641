use mathlib.Core.Path.{◌∙◌}
use Rattle.std.proofs.lemmas.Iterator.Search.{all_from_yields_List}
use Rattle.rules.specs.Heartbeats.{heartbeat}
use Rattle.mine_places.proofs.CodesLaws.{YieldsList-from_codes}
use lib.Dec.{eqb}
use borrow.Author.Rules.{rules}
use borrow.Author.Tests.{tests}
use Rattle.mine_root.proofs.CodeLaws.{all_beats}
use Rattle.mine_root.proofs.eventless.Goals as goal

pub returns : goal.returns
returns c = all_from_yields_List (λ x. eqb x heartbeat) _ _ _ c.all.ensures.ran (YieldsList-from_codes _ c.args.w c.args.events.now (search rules) (search rules) (search rules)) (λ x b q k. search (rules, tests)) ∙ all_beats _
