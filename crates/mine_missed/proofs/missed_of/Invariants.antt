use mathlib.Core.Path.{◌≡◌}
use Rattle.std.specs.Slice.Iter.{chunks_exact_rest, chunks_exact_size}
use Rattle.rules.specs.Words.{each}
use Rattle.code_sets.specs.Bits.{has}
use Rattle.mine_places.specs.Places.{places_in, episode_of, episodes_of, All, Recorded}
use Rattle.mine_views.specs.Sublogs.{sight}
use Rattle.mine_missed.specs.Missed.{missed_by}
use Rattle.mine_missed.proofs.missed_of.Given as goal

abbrev pub invariant-loop-place : goal.invariant-loop-place
invariant-loop-place l = (chunks_exact_size l.place-iterator ≡ 2)
    × All (Recorded l.w l.log) (places_in (chunks_exact_rest l.place-iterator))
    × (missed_by (sight l.v) l.sets (has l.initial.m) (episodes_of l.w l.log l.places) ≡ missed_by (sight l.v) l.sets (has l.m) (each (episode_of l.w l.log) (places_in (chunks_exact_rest l.place-iterator))))
