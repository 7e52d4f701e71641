-- What a hint leads to: a listed place, and the episode where the events are the same.
use mathlib.Core.Path.{◌≡◌, sym, ap, subst, ◌∙◌}
use mathlib.Core.List.{List}
use Prim.Native.Nat.{ℕ, ◌-◌, ◌*◌, ◌≤◌, ◌<◌}
use native.Mathlib.Omega.{arith}
use Rattle.rules.specs.Words.{Has, each}
use Rattle.rules.specs.Heartbeats.{without_heartbeats}
use Rattle.rules.specs.Mining.{Episode, Log}
use Rattle.rules.proofs.ListLaws.{each_has}
use Rattle.mine_places.specs.Places.{places_in, place_at, codes_of, events_of, episode_of, Recorded}
use Rattle.mine_places.proofs.ListLaws.{all_has}
use Rattle.mine_gather.specs.Gathering.{list_of, listed_by, Listing, Finds}
use Rattle.mine_gather.specs.declared.Found.{Found}
use Rattle.mine_gather.specs.declared.Found.TheVariants.{Known}
use Rattle.mine_gather.proofs.PlaceLaws.{place_listed}

-- an episode that is known is listed
pub found_known : (f : Found) → f ≡ Known → (l : Log) (w : ℕ) (events log : List ℕ) (at : ℕ) → events ≡ events_of w log at → Finds f l (codes_of w events) → Has (without_heartbeats (episode_of w log at)) (each without_heartbeats l)
found_known f e l w events log at g h = subst (λ (x : Episode). Has (without_heartbeats x) (each without_heartbeats l)) (ap (codes_of w) g) (subst (λ (x : Found). Finds x l (codes_of w events)) e h)

module _ (w : ℕ) (log : List ℕ) (n : ℕ) (work : List ℕ) (l : Listing w log n work) (few : n ≤ 4080) (k : ℕ) (some : 0 < k) (most : k ≤ n) where
  listed : Has (place_at work (2 * (k - 1))) (places_in (list_of n work))
  listed = place_listed n (k - 1) work (omega arith) (let r = l.room in omega arith)

  -- the place of number k, counted from 1, is that of a record
  pub hinted : (at : ℕ) → at ≡ place_at work (2 * (k - 1)) → Recorded w log at
  hinted at e = subst (Recorded w log) (sym e) (all_has (Recorded w log) (places_in (list_of n work)) l.all _ listed)

  -- and where its events are those of an episode, that episode is listed
  pub hinted_same : (at : ℕ) → at ≡ place_at work (2 * (k - 1)) → (events : List ℕ) → events ≡ events_of w log at → (e : Episode) → without_heartbeats (codes_of w events) ≡ without_heartbeats e → Has (without_heartbeats e) (each without_heartbeats (listed_by w log n work))
  hinted_same at e events f t g =
      subst (λ (x : Episode). Has x (each without_heartbeats (listed_by w log n work))) (ap (λ (i : ℕ). without_heartbeats (episode_of w log i)) (sym e) ∙ ap (λ (s : List ℕ). without_heartbeats (codes_of w s)) (sym f) ∙ g)
      (each_has without_heartbeats _ (listed_by w log n work) (each_has (episode_of w log) (place_at work (2 * (k - 1))) (places_in (list_of n work)) listed))
