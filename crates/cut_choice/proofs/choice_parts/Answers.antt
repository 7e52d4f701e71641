use Rattle.rules.specs.Mining.{choice_parts}
use Rattle.graph_rows.specs.Edges.{meant}
use Rattle.cut_components.proofs.BondLaws.{components_are}
use Rattle.cut_choice.proofs.choice_parts.Goals as goal

pub returns : goal.returns
unfolding choice_parts meant
returns c = (c.components.ensures.few, components_are c.components.ensures c.requires)
