-- What an entry tells of the page's rules. The set of codes seen is held as bits; the rules have a list.
use Rattle.std.specs.Prelude.{◌≡◌, List, ℕ, ◌+◌, ◌<◌, ltb, Option, None, Some}
use Rattle.rules.specs.Words.{pick, mem}
use Rattle.rules.specs.TreeBlock.{Sound, upto, broken, sized_rule, entry_rule}
use Rattle.rules.specs.Calls.{code_count, entry_count}
use Rattle.code_sets.specs.Bits.{has}
use Rattle.code_sets.specs.declared.CodeSet.{CodeSet}
use Rattle.tree_entries.specs.declared.Met.{Met}
use Rattle.tree_entries.specs.declared.Entry.{Entry}
use Rattle.tree_entries.specs.declared.Entry.TheVariants.{Settled, Operator}

-- the set and the list have the same codes
abbrev pub Same : CodeSet → List ℕ → Type 0
Same set l = (c : ℕ) → has set.bits c ≡ mem c l

-- the same end and the same codes, or both broken
abbrev pub Agrees : Option Met → Sound → Type 0
Agrees (Some met) (upto end l) = (met.next ≡ end) × Same met.seen l
Agrees (Some met) broken = ⊥
Agrees None (upto end l) = ⊥
Agrees None broken = Unit {0}

-- a node that its entry settles ends after that entry
abbrev pub After : ℕ → Option Met → Type 0
After at (Some met) = met.next ≡ at + 1
After at None = Unit {0}

-- a leaf's answer, by its rule
pub record LeafSays (at : ℕ) (seen : CodeSet) (rule : List ℕ → Sound) (r : Option Met) : Type 0 where
  pub after : After at r
  pub is : (l : List ℕ) → Same seen l → Agrees r (rule l)

abbrev pub Past : ℕ → Option Entry → Type 0
Past at None = Unit {0}
Past at (Some (Settled met)) = After at (Some met)
Past at (Some (Operator n size)) = at < entry_count

-- the rule for the node at an entry, where `below` is the rule for its list of children
abbrev pub rule_at : List ℕ → ℕ → List ℕ → (ℕ → Sound) → Sound
rule_at b at l below = pick (ltb at entry_count) (entry_rule code_count b at l below) broken

-- what an entry tells of its node
abbrev pub Tells : ℕ → (ℕ → Sound) → Option Entry → Sound → Type 0
Tells at below None s = Agrees None s
Tells at below (Some (Settled met)) s = Agrees (Some met) s
Tells at below (Some (Operator n size)) s = s ≡ sized_rule at size (below n)

pub record EntrySays (b : List ℕ) (at : ℕ) (seen : CodeSet) (r : Option Entry) : Type 0 where
  pub past : Past at r
  pub is : (l : List ℕ) → Same seen l → (below : ℕ → Sound) → Tells at below r (rule_at b at l below)
