-- A block with one entry written.
use Rattle.std.specs.Prelude.{List, ◌++◌, ℕ, ◌+◌, ◌*◌, take, drop}
use Rattle.rules.specs.TreeBlock.{entry}

abbrev pub with_entry : List ℕ → ℕ → ℕ → ℕ → ℕ → List ℕ
with_entry b at kind argument size = take (at * 4) b ++ entry kind argument size ++ drop (at * 4 + 4) b
