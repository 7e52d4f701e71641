-- Request 2026-01: two graphs as one.
use Rattle.std.specs.Prelude.{◌||◌, ℕ}
use Rattle.rules.specs.Words.{keep, mem, from}
use Rattle.rules.specs.Mining.{Graph}

-- the codes, the pairs, the starts and the ends of either
unfoldable pub union : ℕ → Graph → Graph → Graph
union m g h =
    record {
      codes = keep (λ c. mem c g.codes || mem c h.codes) (from 0 m);
      edge = λ a b. g.edge a b || h.edge a b;
      start = λ a. g.start a || h.start a;
      end = λ a. g.end a || h.end a;
    }
