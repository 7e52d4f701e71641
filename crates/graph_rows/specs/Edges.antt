-- What a graph's rows, starts and ends say, and how they grow.
use Rattle.std.specs.Prelude.{◌≡◌, List, Bool, false, ◌||◌, ◌&&◌, ℕ, eqb, ltb, get_or}
use Rattle.rules.specs.Mining as mining
use Rattle.rules.specs.Calls.{code_count}
use Rattle.code_sets.specs.Bits.{has, listed}
use Rattle.graph_rows.specs.declared.Graph.{Graph}

-- b directly follows a: row a has the place b
unfoldable pub edge_of : List ℕ → ℕ → ℕ → Bool
edge_of rows a b = has (get_or rows a 0) b

-- the graph of the rules that is meant, on the codes of a set
unfoldable pub meant : Graph → ℕ → mining.Graph
meant g kept =
    record {
      codes = listed code_count kept;
      edge = edge_of g.rows;
      start = has g.starts.bits;
      end = has g.ends.bits;
    }

-- no pair, no start, no end
pub record Bare (r : Graph) : Type 0 where
  pub edges : (i j : ℕ) → edge_of r.rows i j ≡ false
  pub starts : (i : ℕ) → has r.starts.bits i ≡ false
  pub ends : (i : ℕ) → has r.ends.bits i ≡ false

-- the pair a b and no other pair; none where a code is above the largest
pub record Noted (g : Graph) (a b : ℕ) (r : Graph) : Type 0 where
  pub edges : (i j : ℕ) → edge_of r.rows i j ≡ (edge_of g.rows i j || (ltb a code_count && ltb b code_count && eqb i a && eqb j b))
  pub starts : r.starts ≡ g.starts
  pub ends : r.ends ≡ g.ends

pub record Started (g : Graph) (a : ℕ) (r : Graph) : Type 0 where
  pub edges : r.rows ≡ g.rows
  pub starts : (i : ℕ) → has r.starts.bits i ≡ (has g.starts.bits i || (ltb a code_count && eqb i a))
  pub ends : r.ends ≡ g.ends

pub record Ended (g : Graph) (a : ℕ) (r : Graph) : Type 0 where
  pub edges : r.rows ≡ g.rows
  pub starts : r.starts ≡ g.starts
  pub ends : (i : ℕ) → has r.ends.bits i ≡ (has g.ends.bits i || (ltb a code_count && eqb i a))
