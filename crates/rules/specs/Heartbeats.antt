-- Heartbeats: newer firmware writes code 31 every few seconds. Stored bytes, episodes to add and parts handed on keep it, and lengths count it.
use Rattle.std.specs.Prelude.{◌≡◌, List, not, ℕ, ◌<◌, eqb}
use Rattle.rules.specs.Words.{keep}

abbrev pub heartbeat : ℕ
heartbeat = 31

-- a record's events are its codes other than the heartbeat, in order; heartbeats alone make an empty episode
unfoldable pub without_heartbeats : List ℕ → List ℕ
without_heartbeats e = keep (λ c. not (eqb c heartbeat)) e

-- the code of an event, and so of a leaf: one of the m codes other than the heartbeat
abbrev pub EventCode : ℕ → ℕ → Type 0
EventCode m c = (c < m) × (c ≡ heartbeat → ⊥)
