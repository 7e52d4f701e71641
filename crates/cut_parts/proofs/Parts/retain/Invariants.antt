use Prim.Native.Nat.{ℕ, ◌≤◌}
use mathlib.Core.Path.{◌≡◌}
use mathlib.Core.Bool.{Bool}
use lib.ListN.{length, take}
use Rattle.rules.specs.Words.{keep}
use Rattle.rules.specs.Calls.{code_count}
use Rattle.cut_parts.proofs.RetainLaws.{Moved}
use Rattle.cut_parts.proofs.Parts.retain.Given as goal

abbrev pub invariant-loop-i : goal.invariant-loop-i
invariant-loop-i g l =
    (l.kept ≤ l.i) × (length l.self.sets ≡ code_count)
    × ((p : ℕ → Bool) → ((x : ℕ) (b : Bool) → goal.F-post g l.test x b → b ≡ p x) → Moved p l.self.sets l.initial.self.n l.kept l.i (keep p (take l.initial.self.n l.initial.self.sets)))
