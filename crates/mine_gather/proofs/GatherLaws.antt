-- Of a walk over records: where it starts, one record that is known, one that is listed, and one walk after another.
use mathlib.Core.Path.{◌≡◌, refl, sym, ap, subst, ◌∙◌}
use mathlib.Core.Logic.{inr, ⊎_elim}
use mathlib.Core.List.{List, [], ◌∷◌, ◌++◌, append_assoc, append-nil}
use Prim.Native.Nat.{ℕ, ◌+◌, ◌*◌, ◌<◌}
use native.Mathlib.Nat.{le_refl}
use native.Mathlib.Omega.{arith}
use lib.ListN.{length, length-append}
use lib.Seq.{sets, length-sets}
use Rattle.rules.specs.Words.{Has, each}
use Rattle.rules.specs.Heartbeats.{without_heartbeats}
use Rattle.rules.specs.Mining.{Episode, Log}
use Rattle.rules.proofs.SameEpisodes.{Same}
use Rattle.rules.proofs.ListLaws.{has_append_left, has_append_right, has_append_cases, each_append}
use Rattle.mine_places.specs.Places.{places_in, episode_of, All, Recorded}
use Rattle.mine_gather.specs.Gathering.{list_of, listed_by, as_bytes, Listing, Gathered}
use Rattle.mine_gather.proofs.PlaceLaws.{list_more, list_kept}

all_append : (P : ℕ → Type 0) (xs : List ℕ) (x : ℕ) → All P xs → P x → All P (xs ++ (x ∷ []))
all_append P [] x a p = (p, tt)
all_append P (y ∷ xs) x a p = (a.0, all_append P xs x a.1 p)

module _ (w : ℕ) (log : List ℕ) where
  -- nothing is walked yet
  pub gather_start : (walked : Log) (n : ℕ) (work : List ℕ) → All (Recorded w log) (places_in (list_of n work)) → Gathered w log walked walked n work n work
  gather_start walked n work a = record { few = le_refl _; size = refl; all = a; same = λ later whole s. s }

  -- an episode that is listed already adds nothing to the set
  known_same : (l later whole : Log) (e : Episode) → Has e l → Same (l ++ (e ∷ later)) whole → Same (l ++ later) whole
  known_same l later whole e m s = (
    λ t h. s.0 t (⊎_elim (λ k. has_append_left t l (e ∷ later) k) (λ k. has_append_right t l (e ∷ later) (inr k)) (has_append_cases t l later h)),
    λ t h. ⊎_elim
        (λ k. has_append_left t l later k)
        (λ k. ⊎_elim (λ q. has_append_left t l later (subst (λ (u : Episode). Has u l) (sym q) m)) (λ q. has_append_right t l later q) k)
        (has_append_cases t l (e ∷ later) (s.1 t h)),
  )

  pub gather_known : (e : Episode) (n : ℕ) (work : List ℕ) → All (Recorded w log) (places_in (list_of n work)) → Has (without_heartbeats e) (each without_heartbeats (listed_by w log n work)) → Gathered w log (e ∷ []) [] n work n work
  gather_known e n work a m =
      let l = listed_by w log n work in
      record {
        few = omega arith;
        size = refl;
        all = a;
        same = λ later whole s.
            subst (λ (k : Log). Same k whole) (sym (each_append without_heartbeats l later))
            (known_same (each without_heartbeats l) (each without_heartbeats later) whole (without_heartbeats e) m (subst (λ (k : Log). Same k whole) (each_append without_heartbeats l (e ∷ later)) s));
      }

  -- a place that is listed
  gather_listed : (at n : ℕ) (work work' : List ℕ) → All (Recorded w log) (places_in (list_of n work)) → Recorded w log at → length work' ≡ length work
      → places_in (list_of (n + 1) work') ≡ places_in (list_of n work) ++ (at ∷ []) → Gathered w log (episode_of w log at ∷ []) [] n work (n + 1) work'
  gather_listed at n work work' a r size is =
      let more : listed_by w log (n + 1) work' ≡ listed_by w log n work ++ (episode_of w log at ∷ []) =
      ap (each (episode_of w log)) is ∙ each_append (episode_of w log) (places_in (list_of n work)) (at ∷ []) in
      record {
        few = omega arith;
        size = size;
        all = subst (All (Recorded w log)) (sym is) (all_append (Recorded w log) (places_in (list_of n work)) at a r);
        same = λ later whole s. subst (λ (l : Log). Same (each without_heartbeats l) whole) (sym (ap (λ (l : Log). l ++ later) more ∙ append_assoc (listed_by w log n work) (episode_of w log at ∷ []) later)) s;
      }

  -- a place that is written to the list, alone or with a hint behind the list
  module _ (at n : ℕ) (work : List ℕ) (l : Listing w log n work) (few : n < 4080) (small : at < 65536) (r : Recorded w log at) (put : List ℕ) (is : put ≡ sets work (2 * n) (as_bytes at)) where
    long : length put ≡ length work
    long = ap length is ∙ length-sets work (2 * n) (as_bytes at)

    more : places_in (list_of (n + 1) put) ≡ places_in (list_of n work) ++ (at ∷ [])
    more = ap (λ (s : List ℕ). places_in (list_of (n + 1) s)) is ∙ list_more n work at small (let room = l.room in omega arith)

    pub gather_put : Gathered w log (episode_of w log at ∷ []) [] n work (n + 1) put
    gather_put = gather_listed at n work put l.all r long more

    pub gather_hinted : (slot k : ℕ) (work' : List ℕ) → work' ≡ sets put (8192 + 2 * slot) (as_bytes k) → Gathered w log (episode_of w log at ∷ []) [] n work (n + 1) work'
    gather_hinted slot k work' e =
        gather_listed at n work work' l.all r (ap length e ∙ length-sets put (8192 + 2 * slot) (as_bytes k) ∙ long)
        (ap places_in (ap (list_of (n + 1)) e ∙ list_kept (n + 1) put (8192 + 2 * slot) k (omega arith)) ∙ more)

  -- one walk after another
  pub gather_next : (walked b rest : Log) (n : ℕ) (work : List ℕ) (m : ℕ) (work₁ : List ℕ) (r : ℕ) (work₂ : List ℕ)
      → Gathered w log walked (b ++ rest) n work m work₁ → Gathered w log b [] m work₁ r work₂ → Gathered w log walked rest n work r work₂
  gather_next walked b rest n work m work₁ r work₂ g h =
      record {
        few = let f = g.few in let e = h.few in let l = length-append b rest in omega arith;
        size = h.size ∙ g.size;
        all = h.all;
        same = λ later whole s. h.same (rest ++ later) whole (subst (λ (l : Log). Same (each without_heartbeats (listed_by w log m work₁ ++ l)) whole) (append_assoc b rest later) (g.same later whole s));
      }

  -- the walk is over
  pub gather_whole : (walked : Log) (work : List ℕ) (r : ℕ) (work' : List ℕ) → Gathered w log walked [] 0 work r work' → Same (each without_heartbeats (listed_by w log r work')) (each without_heartbeats walked)
  gather_whole walked work r work' g =
      let whole = each without_heartbeats walked in
      subst (λ (l : Log). Same (each without_heartbeats l) whole) (append-nil (listed_by w log r work'))
      (g.same [] whole (subst (λ (l : Log). Same (each without_heartbeats l) whole) (sym (append-nil walked)) ((λ t h. h), (λ t h. h))))
