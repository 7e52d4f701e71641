-- Which parts of a cut, by number, a sub-episode has no event of.
use Rattle.std.specs.Prelude.{List, not, ◌&&◌, ◌||◌, ℕ, ltb, length, get_or}
use Rattle.rules.specs.Words.{any, from}
use Rattle.rules.specs.Mining.{Log}
use Rattle.rules.specs.Calls.{code_count}
use Rattle.code_sets.specs.Bits.{listed}
use Rattle.mine_views.specs.Sublogs.{Set, Sight, pieces_of, lacks}

-- the codes of part k
abbrev pub part_at : List ℕ → ℕ → List ℕ
part_at sets k = listed code_count (get_or sets k 0)

-- the parts that were missed before, and those that a sub-episode of the log's episodes lacks
unfoldable pub missed_by : Sight → List ℕ → Set → Log → Set
missed_by s sets before l k = before k || (ltb k (length sets) && any (lacks (part_at sets k)) (pieces_of s l))

-- the parts that a sub-episode of these events lacks; without an event it is none
abbrev pub lacked_by : List ℕ → Set → Set
lacked_by sets own k = ltb k (length sets) && (any own (from 0 code_count) && not (any own (part_at sets k)))
