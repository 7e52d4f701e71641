-- What gathering leaves in the work, said of the set of episodes alone, heartbeats left out: which of two equal records is listed, and in which slot its hint stands, is told nowhere.
use Rattle.std.specs.Prelude.{◌≡◌, List, [], ◌∷◌, ◌++◌, ℕ, ◌+◌, ◌*◌, ◌%◌, ◌/◌, ◌≤◌, ◌<◌, length, take}
use Rattle.rules.specs.Words.{Has, each}
use Rattle.rules.specs.Heartbeats.{without_heartbeats}
use Rattle.rules.specs.LogBlock.{log_events}
use Rattle.rules.specs.Mining.{Episode, Log}
use Rattle.rules.proofs.SameEpisodes.{Same}
use Rattle.mine_places.specs.Places.{places_in, episodes_of, All, Recorded, Listed}
use Rattle.mine_gather.specs.declared.Found.{Found}
use Rattle.mine_gather.specs.declared.Found.TheVariants.{Known, Room, Crowded}

-- the list of n places at the front of the work
abbrev pub list_of : ℕ → List ℕ → List ℕ
list_of n work = take (2 * n) work

abbrev pub listed_by : ℕ → List ℕ → ℕ → List ℕ → Log
listed_by w log n work = episodes_of w log (list_of n work)

-- n places are listed, each that of a record, and the work has room for more
pub record Listing (w : ℕ) (log : List ℕ) (n : ℕ) (work : List ℕ) : Type 0 where
  pub some : 1 ≤ w
  pub few : w ≤ 3
  pub room : 16384 ≤ length work
  pub all : All (Recorded w log) (places_in (list_of n work))

-- the list of n places is that of a log's distinct episodes: each place is that of a record, and their episodes are the set of the log's, heartbeats left out
pub record Lists (w : ℕ) (log : List ℕ) (n : ℕ) (work : List ℕ) : Type 0 where
  pub few : n ≤ 4080
  pub listed : Listed w log (list_of n work)
  pub same : Same (each without_heartbeats (listed_by w log n work)) (log_events w log)

-- a number as two bytes, the lower first
abbrev pub as_bytes : ℕ → List ℕ
as_bytes n = n % 256 ∷ n / 256 ∷ []

-- what looking for an episode finds: it is listed, with these heartbeats or others; or a slot, which is one of the table's
abbrev pub Finds : Found → Log → Episode → Type 0
Finds Known l e = Has (without_heartbeats e) (each without_heartbeats l)
Finds (Room slot) l e = slot < 2048
Finds Crowded l e = Unit {0}

-- of a walk over some records, while the rest is still to come: room for the rest, and whatever comes after the walk, nothing is lost and nothing made up
pub record Gathered (w : ℕ) (log : List ℕ) (walked rest : Log) (n : ℕ) (work : List ℕ) (n' : ℕ) (work' : List ℕ) : Type 0 where
  pub few : n' + length rest ≤ n + length walked
  pub size : length work' ≡ length work
  pub all : All (Recorded w log) (places_in (list_of n' work'))
  pub same : (later whole : Log) → Same (each without_heartbeats (listed_by w log n work ++ (walked ++ later))) whole → Same (each without_heartbeats (listed_by w log n' work' ++ (rest ++ later))) whole
