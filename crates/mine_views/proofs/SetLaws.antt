-- A set of codes as bits, and as the ascending list that the rules have.
use mathlib.Core.Path.{◌≡◌}
use mathlib.Core.Logic.{⊎_elim}
use mathlib.Core.Bool.{true}
use Prim.Native.Nat.{ℕ, ◌^◌, ◌<◌}
use native.Mathlib.Omega.{arith}
use Rattle.rules.specs.Words.{keep, mem, from}
use Rattle.rules.proofs.BoolLaws.{not_both_lem, bool_ext}
use Rattle.rules.proofs.ListLaws.{has_keep, keep_has, mem_has, has_mem, has_from}
use Rattle.code_sets.specs.Bits.{has, listed}
use Rattle.code_sets.proofs.BitLaws.{has_high, lt_or_le}

-- a place that is set is below the width
pub has_below : (m x i : ℕ) → x < 2 ^ m → has x i ≡ true → i < m
has_below m x i h e = ⊎_elim (λ l. l) (λ l. not_both_lem (has x i) e (has_high m x i h l)) (lt_or_le i m)

-- the list of a set has the set's codes
pub mem_listed : (m x i : ℕ) → x < 2 ^ m → mem i (listed m x) ≡ has x i
unfolding listed
mem_listed m x i h =
    bool_ext (mem i (keep (has x) (from 0 m))) (has x i)
    (λ e. (has_keep (has x) i (from 0 m) (mem_has i (keep (has x) (from 0 m)) e)).1)
    (λ e. has_mem i (keep (has x) (from 0 m)) (keep_has (has x) i (from 0 m) (has_from m 0 i (omega arith) (let l = has_below m x i h e in omega arith)) e))
