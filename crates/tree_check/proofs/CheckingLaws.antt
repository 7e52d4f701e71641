-- Laws of the check of a whole block, one for each way through the code.
use mathlib.Core.Path.{◌≡◌, refl, sym, ap, ◌∙◌}
use mathlib.Core.List.{List, []}
use mathlib.Core.Bool.{true}
use Prim.Native.Nat.{ℕ, suc, ◌-◌, ◌*◌, ◌≤◌, ◌<◌}
use native.Mathlib.Omega.{arith}
use lib.ListN.{length}
use borrow.Author.Tests.{le-leb, lt-leb, eq-eqb}
use Rattle.rules.specs.Words.{part}
use Rattle.rules.specs.LogBlock.{check_right, first_set}
use Rattle.rules.specs.TreeBlock.{Sound, upto, broken, root_of}
use Rattle.rules.specs.Calls.{code_count, entry_count, formed_by, formed, checking}
use Rattle.rules.proofs.NodeLaws.{node_holds}
use Rattle.code_sets.specs.Bits.{has}
use Rattle.code_sets.specs.declared.CodeSet.{CodeSet}
use Rattle.code_sets.proofs.BitLaws.{has_zero}
use Rattle.tree_entries.specs.declared.Met.{Met}
use Rattle.tree_entries.specs.Entries.{Agrees}
use Rattle.tree_check.specs.Checks.{Within, NodeSays}
use Rattle.std.specs.Prelude.{Ok, Option, None, Some}
use Rattle.rules.specs.Refusals.{refused}
use Rattle.rules.specs.declared.Reason.TheVariants.{BadTree}

-- no tree goes past the last entry
within_broken : (b : List ℕ) (x : Sound) → x ≡ root_of entry_count code_count b → Within entry_count None x → x ≡ broken
within_broken b (upto next l) e h = let fits = (node_holds entry_count code_count b (suc (2 * entry_count)) 0 next [] l (sym e)).1.fits in absurd (omega arith)
within_broken b broken e h = refl

agrees_upto : (met : Met) (x : Sound) → Agrees (Some met) x → (l : List ℕ) × (x ≡ upto met.next l)
agrees_upto met (upto end l) (e, s) = (l, ap (λ (n : ℕ). upto n l) (sym e))
agrees_upto met broken h = absurd h

module _ (b : List ℕ) (seen : CodeSet) (none : seen.bits ≡ 0) where
  root : (r : Option Met) → NodeSays b 0 entry_count seen r → Within entry_count r (root_of entry_count code_count b)
  root r says = says.is [] (λ c. ap (λ (x : ℕ). has x c) none ∙ has_zero c) (suc (2 * entry_count)) (omega arith)

  pub formed_broken : NodeSays b 0 entry_count seen None → refused BadTree 0 ≡ formed b
  unfolding formed
  formed_broken says = sym (ap (λ (x : Sound). formed_by x b) (within_broken b (root_of entry_count code_count b) refl (root None says)))

  module _ (met : Met) (says : NodeSays b 0 entry_count seen (Some met)) (k : ℕ) (first : k ≡ first_set (part b (met.next * 4) (508 - met.next * 4))) where
    ends : (l : List ℕ) × (root_of entry_count code_count b ≡ upto met.next l)
    ends = agrees_upto met (root_of entry_count code_count b) (root (Some met) says)

    pub formed_after : k < 508 - met.next * 4 → refused BadTree 0 ≡ formed b
    unfolding formed
    formed_after h = let x = ends in simp (x.1, ← first, lt-leb _ _ h)

    pub formed_here : 508 - met.next * 4 ≤ k → Ok met.next ≡ formed b
    unfolding formed
    formed_here h = let x = ends in simp (x.1, ← first, le-leb _ _ h)

-- a block of a tree's length, its check right
pub checking_right : (b : List ℕ) → length b ≡ 512 → check_right b ≡ true → checking b ≡ formed b
unfolding checking
checking_right b l r = simp (eq-eqb _ _ l, r)
