-- What copying an episode's events leaves.
use Rattle.std.specs.Prelude.{◌≡◌, List, ◌++◌, ℕ, length, drop}
use Rattle.rules.specs.Heartbeats.{without_heartbeats}

-- r events at the front, the bytes behind them as they were
pub record Copies (e old : List ℕ) (r : ℕ) (new : List ℕ) : Type 0 where
  pub size : length new ≡ length old
  pub count : r ≡ length (without_heartbeats e)
  pub bytes : new ≡ without_heartbeats e ++ drop r old
