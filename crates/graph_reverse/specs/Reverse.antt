-- A table and its edges the other way.
use Rattle.std.specs.Prelude.{◌≡◌, List, ℕ}
use Rattle.graph_rows.specs.Edges.{edge_of}

-- cols has the edges of rows the other way
abbrev pub Back : List ℕ → List ℕ → Type 0
Back rows cols = (a b : ℕ) → edge_of cols a b ≡ edge_of rows b a
