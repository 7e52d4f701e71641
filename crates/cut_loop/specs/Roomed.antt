-- The parts of a loop, where a place for each code is enough for them.
use Rattle.std.specs.Prelude.{List, [], ℕ, ltb, length}
use Rattle.rules.specs.Words.{pick}
use Rattle.rules.specs.Mining.{Graph, redo_parts, loop_parts}
use Rattle.rules.specs.Calls.{code_count}

-- the body and the redo parts, or no part where the redo parts leave no room for a body
unfoldable pub roomed : Graph → List (List ℕ)
roomed g = pick (ltb (length (redo_parts g)) code_count) (loop_parts g) []
