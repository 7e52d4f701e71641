-- What a pass over a log's episodes adds to a graph.
use Rattle.std.specs.Prelude.{List, ◌∷◌, Bool, true, ◌||◌, ℕ, ◌<◌, get_or, Option, None, Some}
use Rattle.rules.specs.Words.{pick, any}
use Rattle.rules.specs.Mining as mining
use Rattle.rules.specs.Mining.{Log, follows, starts_with, ends_with}
use Rattle.rules.specs.Calls.{code_count}
use Rattle.code_sets.specs.Bits.{has}
use Rattle.code_sets.specs.declared.CodeSet.{CodeSet}
use Rattle.graph_rows.specs.declared.Graph.{Graph}
use Rattle.graph_rows.specs.Edges.{meant}
use Rattle.mine_views.specs.Sublogs.{Walk, done, Sight, pieces_of}

-- a graph with a log's pairs, starts and ends besides its own
unfoldable pub joined : mining.Graph → Log → mining.Graph
joined g l =
    record {
      codes = g.codes;
      edge = λ a b. g.edge a b || any (follows a b) l;
      start = λ a. g.start a || any (starts_with a) l;
      end = λ a. g.end a || any (ends_with a) l;
    }

-- a graph with what the sub-episodes of a log's episodes add
abbrev pub with_pieces : Sight → mining.Graph → Log → mining.Graph
with_pieces s g l = joined g (pieces_of s l)

-- a graph with what the rest of a walk adds, where no sub-episode is open, or one is:
-- of the open one the start, the last code and the pairs up to that are known
unfoldable pub resumed : Option ℕ → Walk → mining.Graph → mining.Graph
resumed None w g = joined g (done w)
resumed (Some last) w g =
    record {
      codes = g.codes;
      edge = λ a b. g.edge a b || any (follows a b) ((last ∷ w.0) ∷ w.1);
      start = λ a. g.start a || any (starts_with a) w.1;
      end = λ a. g.end a || any (ends_with a) ((last ∷ w.0) ∷ w.1);
    }

-- a graph while an episode is walked: the last code of the open sub-episode, none where none is open
pub record Trail : Type 0 where
  pub graph : Graph
  pub last : Option ℕ

abbrev pub trail : Graph → Option ℕ → Trail
trail g last = record { graph = g; last = last }

abbrev pub trailed : Trail → ℕ → Walk → mining.Graph
trailed t kept w = resumed t.last w (meant t.graph kept)

-- the last code is one of the codes
abbrev pub Coded : Option ℕ → Type 0
Coded None = Unit {0}
Coded (Some last) = last < code_count

-- a code after `last`, an event or a break, adds nothing: an event whose start or pair is there, a break after an end that is there or where none is open
abbrev pub adds_nothing : Graph → Bool → Option ℕ → ℕ → Bool
adds_nothing g event None c = pick event (has g.starts.bits c) true
adds_nothing g event (Some last) c = pick event (has (get_or g.rows last 0) c) (has g.ends.bits last)

-- the last code of the open sub-episode after one more code: none after a break
abbrev pub last_after : Bool → ℕ → Option ℕ
last_after event c = pick event (Some c) None

-- a graph from its rows, starts and ends
abbrev pub graph_of : List ℕ → CodeSet → CodeSet → Graph
graph_of rows starts ends = record { rows = rows; starts = starts; ends = ends }
