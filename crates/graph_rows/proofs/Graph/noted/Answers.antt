use mathlib.Core.Path.{refl}
use native.Mathlib.Omega.{arith}
use Rattle.rules.specs.Calls.{code_count}
use Rattle.graph_rows.proofs.EdgeLaws.{edge_more}
use Rattle.graph_rows.proofs.Graph.noted.Goals as goal

pub returns-then-a-lt-NO_CODE : goal.returns-then-a-lt-NO_CODE
returns-then-a-lt-NO_CODE c = let a = c.args in
    record {
      edges = edge_more code_count a.self.rows a.a a.b c.with.result.bits (omega arith) (omega arith) c.with.ensures;
      starts = refl;
      ends = refl;
    }
