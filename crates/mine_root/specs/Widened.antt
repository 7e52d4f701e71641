-- What a pass over a log's episodes adds to the root's view.
use Rattle.std.specs.Prelude.{not, ◌&&◌, ◌||◌, eqb, ltb}
use Rattle.rules.specs.Words.{any, each, mem}
use Rattle.rules.specs.Heartbeats.{heartbeat, without_heartbeats}
use Rattle.rules.specs.Mining.{Log, is_empty}
use Rattle.rules.specs.Calls.{code_count}
use Rattle.mine_views.specs.Sublogs.{Sight}

-- a view that does not keep the heartbeat, whether it was met or not
abbrev pub quietly : Sight → Sight
quietly s = record { kept = λ c. s.kept c && not (eqb c heartbeat); breaks = s.breaks; bare = s.bare }

-- a view with the codes of a log's events besides its own, and the empty episode where the log has a record without events
unfoldable pub widened : Sight → Log → Sight
widened s l =
    record {
      kept = λ c. s.kept c || (ltb c code_count && any (mem c) (each without_heartbeats l));
      breaks = s.breaks;
      bare = s.bare || any is_empty (each without_heartbeats l);
    }
