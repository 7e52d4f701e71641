-- How a code faces the starts and ends.
use Rattle.std.specs.Prelude.{List, Bool, ◌&&◌, ℕ}
use Rattle.rules.specs.Words.{any, all, implies}
use Rattle.rules.specs.Mining.{Graph}

-- edges to the border go to gates only, and to every gate if to any code of it
unfoldable pub faces : (ℕ → Bool) → (ℕ → Bool) → List ℕ → Bool
faces edges gates border =
    all (λ a. implies (edges a) (gates a)) border && implies (any edges border) (all (λ a. implies (gates a) (edges a)) border)

-- a code with these edges out and in may stand in a redo part, where the graph's codes are the border
unfoldable pub may_redo : (ℕ → Bool) → (ℕ → Bool) → Graph → Bool
may_redo out into g = faces out g.start g.codes && faces into g.end g.codes
