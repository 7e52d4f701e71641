-- The sets of parts: which of them a row meets, and how many there are.
use mathlib.Core.Path.{◌≡◌, refl, sym, ◌∙◌, ap}
use mathlib.Core.List.{List, [], ◌∷◌}
use mathlib.Core.Bool.{true, false, not}
use Prim.Native.Nat.{ℕ, suc, ◌^◌, ◌≤◌, ◌<◌}
use native.Mathlib.Nat.{lt_of_le_of_lt}
use native.Mathlib.Omega.{arith}
use lib.Dec.{eqb}
use lib.Bits.{bit_and, and_le_r}
use lib.Count.{count_trailing_zeros}
use lib.ListN.{length, take}
use lib.Seq.{length-take-le}
use borrow.Author.Tests.{eqb-false, eq-eqb, ne_eqb, not-true}
use Rattle.rules.specs.Words.{any, each}
use Rattle.rules.specs.Calls.{code_count}
use Rattle.rules.proofs.BoolLaws.{bool_ext, not_both_lem, and_both, and_cases}
use Rattle.rules.proofs.ListLaws.{any_has, has_any}
use Rattle.code_sets.specs.Bits.{has, listed}
use Rattle.code_sets.proofs.BitLaws.{has_and, has_zero}
use Rattle.code_sets.proofs.LowestLaws.{lowest_is}
use Rattle.code_sets.proofs.ListedLaws.{has_listed, listed_has}
use Rattle.cut_parts.specs.declared.Parts.{Parts}
use Rattle.cut_parts.specs.Sets.{sets_of, lists_of, meets}

pub meets_on : (row p : ℕ) → (bit_and p row ≡ 0 → ⊥) → meets row p ≡ true
unfolding meets
meets_on row p h = ap not (ne_eqb (bit_and p row) 0 h)

pub meets_off : (row p : ℕ) → bit_and p row ≡ 0 → meets row p ≡ false
unfolding meets
meets_off row p h = ap not (eq-eqb (bit_and p row) 0 h)

-- a set meets a row where the row has one of its codes
pub meets_listed : (m row p : ℕ) → row < 2 ^ m → meets row p ≡ any (has row) (listed m p)
unfolding meets
meets_listed m row p l =
    bool_ext (not (eqb (bit_and p row) 0)) (any (has row) (listed m p))
    (λ h. let z = eqb-false (bit_and p row) 0 (not-true (eqb (bit_and p row) 0) h) in
    let i = count_trailing_zeros m (bit_and p row) in
    let q = lowest_is m (bit_and p row) (omega arith) (lt_of_le_of_lt (and_le_r p row) l) in
    let both = and_cases (has p i) (has row i) (sym (has_and p row i) ∙ q.1) in
    any_has (has row) i (listed m p) (listed_has m p i q.0 both.0) both.1)
    (λ h. let k = has_any (has row) (listed m p) h in
    let c = k.0 in
    let q = has_listed m p c k.1 in
    ap not (ne_eqb (bit_and p row) 0 (λ e. not_both_lem (has (bit_and p row) c) (has_and p row c ∙ and_both (has p c) (has row c) q.1 k.2) (ap (λ (x : ℕ). has x c) e ∙ has_zero c))))

length_each : {A B : Type 0} (f : A → B) (xs : List A) → length (each f xs) ≡ length xs
length_each f [] = refl
length_each f (x ∷ xs) = ap suc (length_each f xs)

-- the number of parts
pub number : (p : Parts) (ps : List (List ℕ)) → length p.sets ≡ code_count → p.n ≤ code_count → lists_of p ≡ ps → length ps ≡ p.n
unfolding lists_of sets_of
number p ps size few e = ap length (sym e) ∙ length_each (listed code_count) (take p.n p.sets) ∙ length-take-le p.n p.sets (omega arith)
