use Prim.Native.Nat.{ℕ}
use mathlib.Core.Path.{◌≡◌}
use Rattle.code_sets.specs.Bits.{has}
use Rattle.judge_subtrees.specs.Entries.{labelled}
use Rattle.judge_subtrees.proofs.codes_in.Given as goal

abbrev pub invariant-loop-k : goal.invariant-loop-k
invariant-loop-k l = (m : ℕ) → has l.codes.bits m ≡ labelled l.tree l.v l.k m
