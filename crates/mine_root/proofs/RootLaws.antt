-- Laws of the root's view: what each episode adds, and that it shows the whole log.
use mathlib.Core.Path.{◌≡◌, sym, ◌∙◌, ap}
use mathlib.Core.List.{List, [], ◌∷◌, ◌++◌}
use mathlib.Core.Bool.{Bool, false, not, ◌&&◌, ◌||◌}
use Prim.Native.Nat.{ℕ}
use lib.Dec.{eqb, ltb}
use Rattle.rules.specs.Words.{any, each, mem}
use Rattle.rules.specs.Heartbeats.{heartbeat, without_heartbeats}
use Rattle.rules.specs.Mining.{Episode, Log, is_empty}
use Rattle.rules.specs.Calls.{code_count}
use Rattle.rules.proofs.BoolLaws.{or_off, or_assoc, more_none, more_twice}
use Rattle.rules.proofs.ListLaws.{any_append, each_append}
use Rattle.code_sets.specs.Bits.{has}
use Rattle.code_sets.proofs.BitLaws.{has_zero}
use Rattle.mine_places.specs.Places.{codes_of}
use Rattle.mine_views.specs.Sublogs.{Set, Sight, root_sight}
use Rattle.mine_root.specs.Widened.{quietly, widened}

pub widened_nil : (s : Sight) → widened s [] ≡ s
unfolding widened
widened_nil s = λ i. record { kept = λ c. more_none (s.kept c) (ltb c code_count) i; breaks = s.breaks; bare = or_off s.bare i }

events_append : (p : Episode → Bool) (l m : Log) → any p (each without_heartbeats (l ++ m)) ≡ (any p (each without_heartbeats l) || any p (each without_heartbeats m))
events_append p l m = ap (any p) (each_append without_heartbeats l m) ∙ any_append p (each without_heartbeats l) (each without_heartbeats m)

pub widened_append : (s : Sight) (l m : Log) → widened (widened s l) m ≡ widened s (l ++ m)
unfolding widened
widened_append s l m = λ i.
    record {
      kept = λ c. (more_twice (s.kept c) (ltb c code_count) (any (mem c) (each without_heartbeats l)) (any (mem c) (each without_heartbeats m)) ∙ ap (λ (t : Bool). s.kept c || (ltb c code_count && t)) (sym (events_append (mem c) l m))) i;
      breaks = s.breaks;
      bare = (or_assoc s.bare (any is_empty (each without_heartbeats l)) (any is_empty (each without_heartbeats m)) ∙ ap (◌||◌ s.bare) (sym (events_append is_empty l m))) i;
    }

-- one episode more
module _ (w k r : ℕ) (breaks : Set) (bare : Bool) (s : List ℕ) (h : (j : ℕ) → (has r j && not (eqb j heartbeat)) ≡ ((has k j && not (eqb j heartbeat)) || (ltb j code_count && mem j (without_heartbeats (codes_of w s))))) where
  kept_one : (c : ℕ) → (has r c && not (eqb c heartbeat)) ≡ ((has k c && not (eqb c heartbeat)) || (ltb c code_count && (mem c (without_heartbeats (codes_of w s)) || false)))
  kept_one c = rw (h c, or_off (mem c (without_heartbeats (codes_of w s))))

  pub widened_one : (now : Bool) → now ≡ (bare || is_empty (without_heartbeats (codes_of w s))) →
      quietly (record { kept = has r; breaks = breaks; bare = now }) ≡ widened (quietly (record { kept = has k; breaks = breaks; bare = bare })) (codes_of w s ∷ [])
  unfolding widened
  widened_one now e = λ i. record { kept = λ c. kept_one c i; breaks = breaks; bare = (e ∙ ap (◌||◌ bare) (sym (or_off (is_empty (without_heartbeats (codes_of w s)))))) i }

-- from nothing on
pub widened_root : (k b : ℕ) (l : Log) → k ≡ 0 → b ≡ 0 → root_sight code_count (each without_heartbeats l) ≡ widened (quietly (record { kept = has k; breaks = has b; bare = false })) l
unfolding widened
widened_root k b l e f =
    rw (e, f) (λ i.
    record {
      kept = λ c. (sym (has_zero c) i && not (eqb c heartbeat)) || (ltb c code_count && any (mem c) (each without_heartbeats l));
      breaks = λ c. sym (has_zero c) i;
      bare = any is_empty (each without_heartbeats l);
    })
