-- Work that is cleared.
use Prim.Native.Nat.{ℕ, ◌+◌, ◌≤◌, ◌<◌}
use native.Mathlib.Omega.{arith}
use mathlib.Core.List.{List, ◌++◌}
use mathlib.Core.Path.{◌≡◌, sym, ap, ap₂, ◌∙◌}
use lib.ListN.{length, take, drop, replicate, length-drop}
use lib.Seq.{get_or-drop, ext_get_or, length-take-le}
use Rattle.rules.specs.Words.{zeros}
use Rattle.rules.specs.Calls.{cleared, entry_count}
use Rattle.judge_rows.specs.Rows.{Stored}

-- the numbers up to the rows' end become zero
pub wiped : (old w s : List ℕ) → 8128 ≤ length w → s ≡ replicate (length (take 8128 w)) 0 → drop 8128 w ≡ drop 8128 old → s ++ drop 8128 w ≡ cleared 8128 old
unfolding zeros
wiped old w s l h e = ap₂ ◌++◌ (h ∙ ap (λ (n : ℕ). replicate n 0) (length-take-le 8128 w l)) e

-- the work past the rows of n entries is as it was
pub stored_rest : (old R new : List ℕ) (v : ℕ) → v < entry_count → Stored old v R 64 new → drop 8128 new ≡ drop 8128 old
stored_rest old R new v l s =
    let e = s.size in
    let a = length-drop 8128 new in
    let b = length-drop 8128 old in
    ext_get_or 0 (drop 8128 new) (drop 8128 old) (omega arith)
    (λ i g. get_or-drop 8128 new i 0 ∙ s.above (8128 + i) (omega arith) ∙ sym (get_or-drop 8128 old i 0))
