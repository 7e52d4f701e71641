-- A pass over a list of places, two bytes at a time: what each turn keeps, whatever the pass adds up.
use mathlib.Core.Path.{◌≡◌, sym, ◌∙◌, ap, subst}
use mathlib.Core.List.{List, [], ◌∷◌, ◌++◌}
use Prim.Native.Nat.{ℕ, ◌<◌}
use lib.ListN.{length}
use Rattle.rules.specs.Words.{each}
use Rattle.rules.specs.Mining.{Log}
use Rattle.mine_places.specs.Places.{places_in, place_at, codes_of, events_of, episode_of, All, Events, Recorded}
use Rattle.mine_places.proofs.ListLaws as lists

-- the record at the place that a pass has come to, and those after it
module _ (w : ℕ) (log left chunk later : List ℕ) (all : All (Recorded w log) (places_in left)) (cut : left ≡ chunk ++ later) (size : ℕ) (long : length chunk ≡ size) (two : size ≡ 2) where
  rest : All (Recorded w log) (place_at chunk 0 ∷ places_in later)
  rest = subst (All (Recorded w log)) (lists.places_next left chunk later cut (long ∙ two)) all

  pub listed_next : All (Recorded w log) (places_in later)
  listed_next = rest.1

  -- the same of the place that was read there, and of the events that were read at it
  module _ (at : ℕ) (place : at ≡ place_at chunk 0) where
    pub record_here : Recorded w log at
    record_here = subst (Recorded w log) (sym place) rest.0

    pub events_here : (r : List ℕ) → r ≡ events_of w log at → Events w r
    events_here r read = subst (Events w) (sym read) record_here.events

-- `act` is what a log adds to what was added up before
module _ {S : Type 0} (act : S → Log → S) (nil : (s : S) → act s [] ≡ s) (app : (s : S) (l m : Log) → act (act s l) m ≡ act s (l ++ m)) where
  module _ (w : ℕ) (log left : List ℕ) (s all : S) (inv : all ≡ act s (each (episode_of w log) (places_in left))) (size : ℕ) (two : size ≡ 2) where
    pub pass_end : length left < size → s ≡ all
    pass_end h = sym (inv ∙ ap (λ (l : List ℕ). act s (each (episode_of w log) l)) (lists.places_end left (subst (λ (n : ℕ). length left < n) two h)) ∙ nil s)

    -- by the events that were read
    pub pass_read : (chunk later : List ℕ) → left ≡ chunk ++ later → length chunk ≡ size → (at : ℕ) → at ≡ place_at chunk 0 → (r : List ℕ) → r ≡ events_of w log at → (u : S) → u ≡ act s (codes_of w r ∷ []) →
        all ≡ act u (each (episode_of w log) (places_in later))
    pass_read chunk later cut long at place r read u f =
        inv ∙ ap (λ (l : List ℕ). act s (each (episode_of w log) l)) (lists.places_next left chunk later cut (long ∙ two))
        ∙ sym (app s (episode_of w log (place_at chunk 0) ∷ []) (each (episode_of w log) (places_in later)))
        ∙ ap (λ (z : S). act z (each (episode_of w log) (places_in later))) (sym (f ∙ ap (λ (t : List ℕ). act s (codes_of w t ∷ [])) (read ∙ ap (events_of w log) place)))
