-- Rows of what stands between two places, from the last row to the first.
use Prim.Native.Nat.{ℕ, ◌-◌, ◌+◌, ◌*◌, ◌%◌, ◌^◌, ◌≤◌, ◌<◌}
use native.Mathlib.Nat.{le_refl}
use native.Mathlib.Numerals.{add-one}
use native.Mathlib.Omega.{arith}
use mathlib.Core.List.{List, [], ◌∷◌}
use mathlib.Core.Path.{◌≡◌, refl, sym, ap, ap₂, ◌∙◌}
use mathlib.Core.Logic.{◌⊎◌, inl, inr, ⊎_elim}
use mathlib.Core.Bool.{Bool, true, false, ◌||◌, ◌&&◌, not}
use lib.Dec.{eqb, leb}
use borrow.Author.Tests.{eq-eqb, ne_eqb, le-leb, lt-leb}
use lib.ListN.{length, get_or}
use lib.Seq.{slice_empty, slice-cons}
use Rattle.rules.specs.Words.{pick}
use Rattle.rules.proofs.BoolLaws.{or_right, or_off}
use lib.Bits.{bit_or}
use Rattle.code_sets.specs.Bits.{has}
use Rattle.code_sets.proofs.BitLaws.{lt_or_le, has_with, one_shl, has_pow}
use Rattle.judge_rows.specs.Rows.{between, clear, single}

-- less, equal or more
pub three : (j i : ℕ) → (j < i) ⊎ ((j ≡ i) ⊎ (i < j))
three j i = ⊎_elim (λ h. inl h) (λ h. inr (⊎_elim (λ g. inr g) (λ g. inl (omega arith)) (lt_or_le i j))) (lt_or_le j i)

-- the place before, and one more
pub back : (i : ℕ) → 0 < i → i ≡ i - 1 + 1
back i h = omega arith

pub and_off : (b : Bool) → (b && false) ≡ false
and_off true = refl
and_off false = refl

module _ (P : List ℕ → Bool) (e : List ℕ) where
  pub between_below : (i j : ℕ) → j < i → between P e i j ≡ false
  unfolding between
  between_below i j h = rw (lt-leb i j h)

  pub between_above : (i j : ℕ) → length e < j → between P e i j ≡ false
  unfolding between
  between_above i j h = rw (lt-leb j (length e) h) (and_off (leb i j))

  -- no row past the end
  pub between_past : (i j : ℕ) → length e < i → between P e i j ≡ false
  between_past i j h = ⊎_elim (λ g. between_below i j g) (λ g. between_above i j (omega arith)) (lt_or_le j i)

  pub between_here : (i : ℕ) → i ≤ length e → between P e i i ≡ P []
  unfolding between
  between_here i h = rw (le-leb i i (le_refl i), le-leb i (length e) h, slice_empty i e)

-- one event more in front
pub between_more : (P : List ℕ → Bool) (e : List ℕ) (i j : ℕ) → i < j → i < length e
    → between P e i j ≡ between (λ w. P (get_or e i 0 ∷ w)) e (i + 1) j
unfolding between
between_more P e i j h l = ⊎_elim
    (λ (g : length e < j). between_above P e i j g ∙ sym (between_above (λ w. P (get_or e i 0 ∷ w)) e (i + 1) j g))
    (λ (g : j ≤ length e). let u : i ≤ j = omega arith in let v : i + 1 ≤ j = omega arith in
    rw (le-leb i j u, le-leb (i + 1) j v, le-leb j (length e) g, slice-cons i j e 0 h g, add-one i))
    (lt_or_le (length e) j)

between_pick : (b : Bool) (P Q : List ℕ → Bool) (e : List ℕ) (i j : ℕ) → between (λ w. pick b (P w) (Q w)) e i j ≡ pick b (between P e i j) (between Q e i j)
between_pick true P Q e i j = refl
between_pick false P Q e i j = refl

between_and : (b : Bool) (P : List ℕ → Bool) (e : List ℕ) (i j : ℕ) → between (λ w. b && P w) e i j ≡ (b && between P e i j)
unfolding between
between_and true P e i j = refl
between_and false P e i j = ap (λ (t : Bool). leb i j && t) (and_off (leb j (length e))) ∙ and_off (leb i j)

-- ---- no event of B

module _ (B : ℕ → Bool) (e : List ℕ) where
  abbrev runs : ℕ → ℕ → Bool
  runs = between (clear B) e

  -- the row at the end
  pub clear_end : (j : ℕ) → runs (length e) j ≡ eqb j (length e)
  clear_end j = ⊎_elim
      (λ h. between_below (clear B) e (length e) j h ∙ sym (ne_eqb j (length e) (λ q. omega arith)))
      (⊎_elim
      (λ q. ap (λ (m : ℕ). runs (length e) m) q ∙ between_here (clear B) e (length e) (le_refl (length e)) ∙ sym (eq-eqb j (length e) q))
      (λ h. between_above (clear B) e (length e) j h ∙ sym (ne_eqb j (length e) (λ q. omega arith))))
      (three j (length e))

  -- the row before a row
  pub clear_step : (i j : ℕ) → i < length e → runs i j ≡ ((not (B (get_or e i 0)) && runs (i + 1) j) || eqb j i)
  clear_step i j l = ⊎_elim
      (λ h. between_below (clear B) e i j h
      ∙ sym (ap₂ (λ (s t : Bool). (not (B (get_or e i 0)) && s) || t) (between_below (clear B) e (i + 1) j (omega arith)) (ne_eqb j i (λ q. omega arith))
      ∙ or_off (not (B (get_or e i 0)) && false) ∙ and_off (not (B (get_or e i 0)))))
      (⊎_elim
      (λ q. ap (λ (m : ℕ). runs i m) q ∙ between_here (clear B) e i (omega arith)
      ∙ sym (or_right (not (B (get_or e i 0)) && runs (i + 1) j) (eqb j i) (eq-eqb j i q)))
      (λ h. between_more (clear B) e i j h l ∙ between_and (not (B (get_or e i 0))) (clear B) e (i + 1) j
      ∙ sym (ap (λ (t : Bool). (not (B (get_or e i 0)) && runs (i + 1) j) || t) (ne_eqb j i (λ q. omega arith)) ∙ or_off (not (B (get_or e i 0)) && runs (i + 1) j))))
      (three j i)

  -- the code's first row: the bit of the end alone
  pub clear_last : (j : ℕ) → length e < 64 → has (1 * 2 ^ length e % 2 ^ 64) j ≡ runs (length e) j
  clear_last j l = ap (λ (x : ℕ). has x j) (one_shl 64 (length e) l) ∙ has_pow (length e) j ∙ sym (clear_end j)

  -- the code's turn at i: the run so far, kept where event i is not in B, and place i
  pub clear_turn : (i run : ℕ) (b : Bool) (j : ℕ) → i < length e → i < 64 → B (get_or e i 0) ≡ b → has run j ≡ (not b && runs (i + 1) j) → has (bit_or run (1 * 2 ^ i % 2 ^ 64)) j ≡ runs i j
  clear_turn i run b j l s q h =
      has_with 64 run i j s ∙ ap (λ (t : Bool). t || eqb j i) (h ∙ ap (λ (t : Bool). not t && runs (i + 1) j) (sym q)) ∙ sym (clear_step i j l)

-- ---- exactly one event a

module _ (a : ℕ) (e : List ℕ) where
  single_none : (i j : ℕ) → j ≤ i → between (single a) e i j ≡ false
  unfolding single
  single_none i j h = ⊎_elim
      (λ (g : j < i). between_below (single a) e i j g)
      (λ (g : i ≤ j). let q : j ≡ i = omega arith in ap (λ (m : ℕ). between (single a) e i m) q ∙ ⊎_elim
      (λ (l : length e < i). between_past (single a) e i i l)
      (λ (l : i ≤ length e). between_here (single a) e i l)
      (lt_or_le (length e) i))
      (lt_or_le j i)

  pub single_past : (i j : ℕ) → length e ≤ i → between (single a) e i j ≡ false
  single_past i j h = ⊎_elim (λ (g : i < j). between_above (single a) e i j (omega arith)) (λ (g : j ≤ i). single_none i j g) (lt_or_le i j)

  pub single_step : (i j : ℕ) → i < length e
      → between (single a) e i j ≡ pick (eqb (get_or e i 0) a) (between (clear (λ x. eqb x a)) e (i + 1) j) (between (single a) e (i + 1) j)
  unfolding single
  single_step i j l = ⊎_elim
      (λ (h : i < j). between_more (single a) e i j h l ∙ between_pick (eqb (get_or e i 0) a) (clear (λ x. eqb x a)) (single a) e (i + 1) j)
      (λ (h : j ≤ i). single_none i j h ∙ sym (same (eqb (get_or e i 0) a) (between (clear (λ x. eqb x a)) e (i + 1) j) (between (single a) e (i + 1) j)
      (between_below (clear (λ x. eqb x a)) e (i + 1) j (omega arith)) (single_none (i + 1) j (omega arith))))
      (lt_or_le i j)
    where
      same : (t p q : Bool) → p ≡ false → q ≡ false → pick t p q ≡ false
      same true p q x y = x
      same false p q x y = y
