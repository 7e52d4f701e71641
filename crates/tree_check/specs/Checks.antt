-- What the functions of the check tell of the page's rules.
use Rattle.std.specs.Prelude.{List, ℕ, ◌+◌, ◌-◌, ◌*◌, ◌≤◌, ◌<◌, eqb, Option, None, Some}
use Rattle.rules.specs.Words.{pick}
use Rattle.rules.specs.TreeBlock.{Sound, upto, broken, node_at, list_at}
use Rattle.rules.specs.Calls.{code_count, entry_count}
use Rattle.code_sets.specs.declared.CodeSet.{CodeSet}
use Rattle.tree_entries.specs.declared.Met.{Met}
use Rattle.tree_entries.specs.Entries.{Same, Agrees}

-- a node or a list that ends from one entry up to another
abbrev pub Between : ℕ → ℕ → Option Met → Type 0
Between low high (Some met) = (low ≤ met.next) × (met.next ≤ high)
Between low high None = Unit {0}

-- as the rule says, or broken where the rule goes past an end
abbrev pub Within : ℕ → Option Met → Sound → Type 0
Within end (Some met) x = Agrees (Some met) x
Within end None (upto next l) = end < next
Within end None broken = Unit {0}

-- an operator's answer, by that for its list of children, where the operator stops at an entry
abbrev pub ended_of : ℕ → Option Met → Option Met
ended_of stop (Some met) = pick (eqb met.next stop) (Some met) None
ended_of stop None = None

-- the rule's own answer at every depth above the measure, up to an end
pub record NodeSays (b : List ℕ) (at end : ℕ) (seen : CodeSet) (r : Option Met) : Type 0 where
  pub ends : Between (at + 1) end r
  pub is : (l : List ℕ) → Same seen l → (f : ℕ) → 2 * (entry_count - at) < f → Within end r (node_at entry_count code_count f b at l)

pub record ListSays (b : List ℕ) (at n end : ℕ) (seen : CodeSet) (r : Option Met) : Type 0 where
  pub ends : Between (at + n) end r
  pub is : (l : List ℕ) → Same seen l → (f : ℕ) → 2 * (entry_count - at) + 1 < f → Within end r (list_at entry_count code_count f b at n l)
