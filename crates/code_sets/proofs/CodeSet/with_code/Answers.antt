use mathlib.Core.Path.{ap, ◌∙◌}
use Prim.Native.Nat.{ℕ, ◌%◌}
use native.Mathlib.Nat.{mod-eq_of_lt}
use mathlib.Core.Bool.{◌||◌}
use lib.Dec.{eqb}
use Rattle.rules.specs.Calls.{code_count}
use Rattle.code_sets.specs.Bits.{has}
use Rattle.code_sets.proofs.BitLaws.{has_with}
use borrow.Author.Rules.{rules}
use Rattle.code_sets.proofs.CodeSet.with_code.Goals as goal

pub returns : goal.returns
returns c i = let a = c.args in
    has_with code_count a.self.bits (a.c % code_count) i (search rules)
    ∙ ap (λ (k : ℕ). has a.self.bits i || eqb i k) (mod-eq_of_lt c.requires)
