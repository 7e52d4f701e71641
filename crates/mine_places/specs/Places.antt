-- A list of places in a log, and the episodes at its places. w is the number of bytes of an event, its code first.
use Rattle.std.specs.Prelude.{List, [], ◌∷◌, ℕ, zero, suc, ◌+◌, ◌-◌, ◌*◌, ◌≤◌, ◌<◌, length, get_or}
use Rattle.rules.specs.Words.{part, each}
use Rattle.rules.specs.Mining.{Episode, Log}
use Rattle.rules.specs.Calls.{code_count}

-- what two bytes say, the lower first
abbrev pub two_bytes : ℕ → ℕ → ℕ
two_bytes low high = low + 256 * high

-- the places of a list: two bytes each
abbrev pub places_in : List ℕ → List ℕ
places_in [] = []
places_in (low ∷ []) = []
places_in (low ∷ high ∷ s) = two_bytes low high ∷ places_in s

-- the place that a list has from its byte i on
abbrev pub place_at : List ℕ → ℕ → ℕ
place_at s i = two_bytes (get_or s i 0) (get_or s (i + 1) 0)

-- every w-th byte, the first one after those that are passed over
abbrev pub codes_after : ℕ → ℕ → List ℕ → List ℕ
codes_after w over [] = []
codes_after w zero (c ∷ s) = c ∷ codes_after w (w - 1) s
codes_after w (suc over) (b ∷ s) = codes_after w over s

-- the codes of some events
abbrev pub codes_of : ℕ → List ℕ → List ℕ
codes_of w s = codes_after w 0 s

-- the events of the record whose length byte is at a place
abbrev pub events_of : ℕ → List ℕ → ℕ → List ℕ
events_of w log at = part log (at + 1) (get_or log at 0 * w)

abbrev pub episode_of : ℕ → List ℕ → ℕ → Episode
episode_of w log at = codes_of w (events_of w log at)

-- the episodes at the places of a list
abbrev pub episodes_of : ℕ → List ℕ → List ℕ → Log
episodes_of w log places = each (episode_of w log) (places_in places)

abbrev pub All : (ℕ → Type 0) → List ℕ → Type 0
All P [] = Unit {0}
All P (x ∷ xs) = P x × All P xs

-- some events as a record has them: few, and every code one of the codes
pub record Events (w : ℕ) (s : List ℕ) : Type 0 where
  pub some : 1 ≤ w
  pub few : w ≤ 3
  pub short : length s ≤ 189
  pub codes : All (λ c. c < code_count) (codes_of w s)

-- a record whose length byte is at a place of the log
pub record Recorded (w : ℕ) (log : List ℕ) (at : ℕ) : Type 0 where
  pub short : get_or log at 0 ≤ 63
  pub inside : at + 1 + get_or log at 0 * w ≤ length log
  pub events : Events w (events_of w log at)

-- every place of a list is that of a record
pub record Listed (w : ℕ) (log places : List ℕ) : Type 0 where
  pub few : w ≤ 3
  pub all : All (Recorded w log) (places_in places)
