-- A pass over a log adds up to a graph.
use mathlib.Core.Path.{◌≡◌, ◌∙◌, ap}
use mathlib.Core.List.{[], ◌++◌}
use Rattle.rules.specs.Mining as mining
use Rattle.rules.specs.Mining.{Log}
use Rattle.mine_views.specs.Sublogs.{Sight, pieces_of}
use Rattle.mine_views.proofs.PieceLaws.{pieces_append}
use Rattle.mine_trails.specs.Growing.{joined, with_pieces}
use Rattle.mine_trails.proofs.TrailLaws.{joined_nil, joined_append}

pub graph_nil : (s : Sight) (g : mining.Graph) → with_pieces s g [] ≡ g
graph_nil s g = joined_nil g

pub graph_append : (s : Sight) (g : mining.Graph) (l m : Log) → with_pieces s (with_pieces s g l) m ≡ with_pieces s g (l ++ m)
graph_append s g l m = joined_append g (pieces_of s l) (pieces_of s m) ∙ ap (joined g) (pieces_append s l m)
