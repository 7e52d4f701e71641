-- When a view may be mined.
use Rattle.std.specs.Prelude.{◌≡◌, List, ℕ, ◌+◌, ◌≤◌, length}
use Rattle.rules.specs.Trees.{size}
use Rattle.rules.specs.Mining.{Log, mined}
use Rattle.rules.specs.Calls.{code_count, entry_count}
use Rattle.mine_views.specs.declared.View.{View}
use Rattle.mine_views.specs.Sublogs.{sight, sublog, Tight}

-- a view that may be mined from an entry on: it is tight, and its tree ends by the last entry
pub record Ready (l : Log) (v : View) (tree : List ℕ) (at : ℕ) : Type 0 where
  pub tight : Tight code_count (sight v) l
  pub long : length tree ≡ 512
  pub room : at + size (mined code_count (sublog v l)) ≤ entry_count
