-- The sublog that a view shows of a log, and the view of a part.
use Rattle.std.specs.Prelude.{◌≡◌, List, [], ◌∷◌, ◌++◌, Bool, true, false, not, ◌&&◌, ◌||◌, ℕ, ◌<◌, ltb}
use Rattle.rules.specs.Words.{any, keep, each, flat, mem, from}
use Rattle.rules.specs.Trees.{Op, choice, sequence, parallel, loop}
use Rattle.rules.specs.Mining.{Episode, Log, Graph, occurring, project, is_empty, follows, starts_with, ends_with}
use Rattle.code_sets.specs.Bits.{has}
use Rattle.mine_views.specs.declared.View.{View}

abbrev pub Set : Type 0
Set = ℕ → Bool

-- the sub-episode that is still open at the front, and those after it
abbrev pub Walk : Type 0
Walk = Episode × List Episode

-- an open sub-episode with no event is none
abbrev pub close : Episode → List Episode → List Episode
close [] later = later
close (a ∷ t) later = (a ∷ t) ∷ later

-- the code x before a walk: an event, a break, or passed over
abbrev pub step_by : Bool → Bool → ℕ → Walk → Walk
step_by true b x w = (x ∷ w.0, w.1)
step_by false true x w = ([], close w.0 w.1)
step_by false false x w = w

abbrev pub walk : Set → Set → Episode → Walk
walk kept breaks [] = ([], [])
walk kept breaks (x ∷ t) = step_by (kept x) (breaks x) x (walk kept breaks t)

-- an episode's end ends its open sub-episode
abbrev pub done : Walk → List Episode
done w = close w.0 w.1

-- the sub-episodes of an episode, each with an event
abbrev pub pieces : Set → Set → Episode → List Episode
pieces kept breaks t = done (walk kept breaks t)

-- what a view sees: which codes are events, which are breaks, and whether the empty episode is there too
pub record Sight : Type 0 where
  pub kept : Set
  pub breaks : Set
  pub bare : Bool

abbrev pub empty_if : Bool → Log
empty_if true = [] ∷ []
empty_if false = []

abbrev pub pieces_of : Sight → Log → Log
pieces_of s l = flat (each (pieces s.kept s.breaks) l)

unfoldable pub shown : Sight → Log → Log
shown s l = empty_if s.bare ++ pieces_of s l

abbrev pub sight : View → Sight
sight v = record { kept = has v.keep.bits; breaks = has v.breaks.bits; bare = v.bare }

-- the sublog of a view
abbrev pub sublog : View → Log → Log
sublog v l = shown (sight v) l

-- every kept code is one of the m codes, occurs in the sublog, and is no break
pub record Tight (m : ℕ) (s : Sight) (l : Log) : Type 0 where
  pub below : (x : ℕ) → s.kept x ≡ true → x < m
  pub occurs : occurring m (shown s l) ≡ keep s.kept (from 0 m)
  pub apart : (x : ℕ) → s.kept x ≡ true → s.breaks x ≡ false

-- an episode has no code of the part
abbrev pub lacks : List ℕ → Episode → Bool
lacks p t = is_empty (project p t)

-- some sub-episode has no code of the part
abbrev pub bare_of : List ℕ → Log → Sight → Bool
bare_of p l s = any (lacks p) (shown s l)

-- the view of a part: what is kept is the part; a loop's part is broken by the parent's other codes
abbrev pub part_sight : Op → List ℕ → Log → Sight → Sight
part_sight choice p l s = record { kept = λ c. mem c p; breaks = s.breaks; bare = false }
part_sight sequence p l s = record { kept = λ c. mem c p; breaks = s.breaks; bare = bare_of p l s }
part_sight parallel p l s = record { kept = λ c. mem c p; breaks = s.breaks; bare = bare_of p l s }
part_sight loop p l s = record { kept = λ c. mem c p; breaks = λ c. s.breaks c || (s.kept c && not (mem c p)); bare = false }

-- the whole log: every code that occurs is an event, none is a break
abbrev pub root_sight : ℕ → Log → Sight
root_sight m l = record { kept = λ c. ltb c m && any (mem c) l; breaks = λ _. false; bare = any is_empty l }

-- the graph of a log on some codes
unfoldable pub drawn : List ℕ → Log → Graph
drawn cs l =
    record {
      codes = cs;
      edge = λ a b. any (follows a b) l;
      start = λ a. any (starts_with a) l;
      end = λ a. any (ends_with a) l;
    }
