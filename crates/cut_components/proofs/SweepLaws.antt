-- The turns of the loop that joins a code to parts, and what bonds two codes.
use mathlib.Core.Path.{◌≡◌, refl, sym, ◌∙◌, ap}
use mathlib.Core.List.{List, [], ◌∷◌, ◌++◌}
use mathlib.Core.Bool.{Bool, true, false, not, ◌&&◌, beq}
use Prim.Native.Nat.{ℕ, zero, suc, ◌+◌, ◌-◌, ◌^◌, ◌≤◌, ◌<◌}
use native.Mathlib.Omega.{arith}
use native.Mathlib.Numerals.{add-one}
use lib.ListN.{length, take, drop, get_or, set, length-set}
use lib.Seq.{take-suc-set}
use lib.Bits.{bit_and, bit_or, bit_xor, and_lt, xor_lt}
use Rattle.rules.specs.Calls.{code_count}
use Rattle.code_sets.specs.Bits.{has}
use Rattle.code_sets.proofs.BitLaws.{has_and, has_xor, has_not}
use Rattle.std.proofs.lemmas.List.{at_drop_more, at_drop_all}
use Rattle.cut_parts.proofs.SetLaws.{meets_on, meets_off}
use Rattle.cut_components.specs.Joined.{join_on}

-- one more set at the end, behind the first
behind_more : (kept : List ℕ) (m p : ℕ) → 1 ≤ m → m < length kept → drop 1 (take (m + 1) (set kept m p)) ≡ drop 1 (take m kept) ++ (p ∷ [])
behind_more [] m p f h = absurd (omega arith)
behind_more (x ∷ xs) zero p f h = absurd (omega arith)
behind_more (x ∷ xs) (suc m) p f h = ap (λ (k : ℕ). drop 1 (take k (x ∷ set xs m p))) (add-one (suc m)) ∙ take-suc-set xs m p (omega arith)

-- the first set is written
first_set_lem : (m : ℕ) (kept : List ℕ) (v : ℕ) → 1 ≤ m → 1 ≤ length kept → take m (set kept 0 v) ≡ v ∷ drop 1 (take m kept)
first_set_lem zero kept v f h = absurd (omega arith)
first_set_lem (suc m) [] v f h = absurd (omega arith)
first_set_lem (suc m) (x ∷ xs) v f h = refl

-- i of the sets are swept: the first of the m places of kept waits for the whole, the others are behind it
pub record Sweep (row : ℕ) (all sets : List ℕ) (i whole : ℕ) (kept : List ℕ) (m : ℕ) : Type 0 where
  pub few : m ≤ i + 1
  pub first : 1 ≤ m
  pub size : length kept ≡ code_count
  pub same : all ≡ join_on row whole (drop 1 (take m kept)) (drop i sets)

module _ (row : ℕ) (all sets : List ℕ) (i whole : ℕ) (kept : List ℕ) (m : ℕ) (s : Sweep row all sets i whole kept m) where
  module _ (low : i < length sets) (room : length sets < code_count) where
    pub sweep_met : (bit_and (get_or sets i 0) row ≡ 0 → ⊥) → Sweep row all sets (i + 1) (bit_or whole (get_or sets i 0)) kept m
    sweep_met h =
        record {
          few = omega (arith, s.few);
          first = s.first;
          size = s.size;
          same = s.same ∙ at_drop_more (join_on row whole (drop 1 (take m kept))) sets i 0 low ∙ rw (meets_on row (get_or sets i 0) h);
        }

    pub sweep_unmet : bit_and (get_or sets i 0) row ≡ 0 → Sweep row all sets (i + 1) whole (set kept m (get_or sets i 0)) (m + 1)
    sweep_unmet h =
        let p = get_or sets i 0 in
        record {
          few = omega (arith, s.few);
          first = omega arith;
          size = length-set kept m p ∙ s.size;
          same = s.same ∙ at_drop_more (join_on row whole (drop 1 (take m kept))) sets i 0 low
              ∙ rw (meets_off row p h) (ap (λ (xs : List ℕ). join_on row whole xs (drop (i + 1) sets)) (sym (behind_more kept m p s.first (omega (arith, s.few, s.size)))));
        }

  -- no set is left, and the whole is written to its place
  pub sweep_end : length sets ≤ i → take m (set kept 0 whole) ≡ all
  sweep_end l = first_set_lem m kept whole s.first (omega (arith, s.size)) ∙ sym (s.same ∙ at_drop_all (join_on row whole (drop 1 (take m kept))) sets i l)

not_not : (b : Bool) → not (not b) ≡ b
not_not true = refl
not_not false = refl

-- both or none, and not both, at a width
module _ (m a b i : ℕ) (la : a < 2 ^ m) (lb : b < 2 ^ m) (l : i < m) where
  pub has_alike : has ((2 ^ m - 1) - bit_xor a b) i ≡ beq (has a i) (has b i)
  has_alike = has_not m (bit_xor a b) i (xor_lt m a b la lb) l ∙ ap not (has_xor a b i) ∙ not_not (beq (has a i) (has b i))

  pub has_not_both : has ((2 ^ m - 1) - bit_and a b) i ≡ not (has a i && has b i)
  has_not_both = has_not m (bit_and a b) i (and_lt m a b la lb) l ∙ ap not (has_and a b i)
