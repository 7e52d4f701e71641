use mathlib.Core.Path.{◌≡◌}
use Rattle.std.specs.Slice.Iter.{chunks_exact_rest, chunks_exact_size}
use Rattle.rules.specs.Words.{each}
use Rattle.rules.specs.Heartbeats.{without_heartbeats}
use Rattle.rules.specs.Calls.{code_count}
use Rattle.mine_places.specs.Places.{places_in, episode_of, episodes_of, All, Recorded}
use Rattle.mine_views.specs.Sublogs.{sight, root_sight}
use Rattle.mine_root.specs.Widened.{quietly, widened}
use Rattle.mine_root.proofs.root_of.Given as goal

abbrev pub invariant-loop-place : goal.invariant-loop-place
invariant-loop-place l = (chunks_exact_size l.place-iterator ≡ 2)
    × All (Recorded l.w l.log) (places_in (chunks_exact_rest l.place-iterator)) × (root_sight code_count (each without_heartbeats (episodes_of l.w l.log l.places)) ≡ widened (quietly (sight l.v)) (each (episode_of l.w l.log) (places_in (chunks_exact_rest l.place-iterator))))
