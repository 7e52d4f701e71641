use mathlib.Core.Path.{◌≡◌}
use mathlib.Core.Bool.{◌&&◌}
use Prim.Native.Nat.{ℕ}
use lib.ListN.{length}
use Rattle.std.specs.Slice.Iter.{chunks_exact_rest, chunks_exact_size}
use Rattle.rules.specs.Words.{each}
use Rattle.rules.specs.Calls.{code_count}
use Rattle.code_sets.specs.Bits.{has}
use Rattle.graph_rows.specs.Edges.{meant}
use Rattle.mine_places.specs.Places.{places_in, episode_of, episodes_of, All, Recorded}
use Rattle.mine_views.specs.Sublogs.{sight}
use Rattle.mine_trails.specs.Growing.{with_pieces}
use Rattle.mine_graph.proofs.graph_of.Given as goal

abbrev pub invariant-loop-place : goal.invariant-loop-place
invariant-loop-place l = (chunks_exact_size l.place-iterator ≡ 2)
    × All (Recorded l.w l.log) (places_in (chunks_exact_rest l.place-iterator))
    × (with_pieces (sight l.v) (meant l.initial.g l.v.keep.bits) (episodes_of l.w l.log l.places) ≡ with_pieces (sight l.v) (meant l.g l.v.keep.bits) (each (episode_of l.w l.log) (places_in (chunks_exact_rest l.place-iterator))))
    × (length l.g.rows ≡ code_count)
    × ((x : ℕ) → has l.first.bits x ≡ (has l.g.starts.bits x && has l.v.keep.bits x))
