use mathlib.Core.Path.{ap}
use Prim.Native.Nat.{ℕ}
use native.Mathlib.Nat.{mod-eq_of_lt}
use Rattle.code_sets.specs.Bits.{has}
use Rattle.code_sets.proofs.CodeSet.has_code.Goals as goal

pub returns : goal.returns
unfolding has
returns c = ap (λ (k : ℕ). has c.args.self.bits k) (mod-eq_of_lt c.requires)
