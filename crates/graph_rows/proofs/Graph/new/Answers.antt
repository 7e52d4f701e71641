use Rattle.rules.specs.Calls.{code_count}
use Rattle.code_sets.proofs.BitLaws.{has_zero}
use Rattle.graph_rows.proofs.EdgeLaws.{edge_none}
use Rattle.graph_rows.proofs.Graph.new.Goals as goal

pub returns : goal.returns
returns c = record { edges = edge_none code_count; starts = has_zero; ends = has_zero }
