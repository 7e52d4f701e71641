-- Tables of rows, one store at a time, and the rows of an entry in the work.
use Prim.Native.Nat.{ℕ, zero, suc, ◌+◌, ◌*◌, ◌≤◌, ◌<◌}
use native.Mathlib.Omega.{arith}
use mathlib.Core.List.{List}
use mathlib.Core.Path.{◌≡◌, refl, sym, ap, ap₂, ◌∙◌, subst}
use mathlib.Core.Logic.{⊎_elim}
use mathlib.Core.Bool.{Bool, false, ◌&&◌, ◌||◌}
use borrow.Author.Tests.{lt-ltb, le-ltb}
use lib.ListN.{length, get_or, set, replicate, get_or-eq_default}
use lib.Seq.{get_or-set_same, get_or-set_other}
use Rattle.rules.specs.Trees.{Op, choice, sequence, parallel, loop}
use Rattle.code_sets.specs.Bits.{has}
use Rattle.code_sets.proofs.BitLaws.{lt_or_le, has_zero}
use Rattle.code_sets.proofs.AnyLaws.{any_none}
use Rattle.judge_rows.specs.Rows.{at, after, joined_by, kept, Stored}
use Rattle.judge_rows.proofs.RunLaws.{three}

pub zeros_at : (n k : ℕ) → ◌≡◌ {A = ℕ} (get_or (replicate n 0) k 0) 0
zeros_at zero zero = refl
zeros_at zero (suc k) = refl
zeros_at (suc n) zero = refl
zeros_at (suc n) (suc k) = zeros_at n k

-- a new table has no place
pub at_new : (n k j : ℕ) → at (replicate n 0) k j ≡ false
at_new n k j = ap (λ (x : ℕ). has x j) (zeros_at n k) ∙ has_zero j

-- no row past the table
pub at_out : (R : List ℕ) (k j : ℕ) → length R ≤ k → at R k j ≡ false
at_out R k j h = ap (λ (x : ℕ). has x j) (get_or-eq_default R 0 h) ∙ has_zero j

-- nor in what is joined of two tables
pub joined_out : (o : Op) (A : ℕ → Bool) (B : ℕ → ℕ → Bool) (i j : ℕ) → ((k : ℕ) → A k ≡ false) → ((k : ℕ) → B i k ≡ false) → joined_by o A B i j ≡ false
unfolding after
joined_out choice A B i j ha hb = ap₂ ◌||◌ (ha j) (hb j)
joined_out sequence A B i j ha hb = any_none 64 (λ k. A k && B k j) (λ k. ap (λ (b : Bool). b && B k j) (ha k))
joined_out parallel A B i j ha hb = ap (λ (b : Bool). b && B i j) (ha j)
joined_out loop A B i j ha hb = ap₂ ◌||◌ (ha j) (hb j)

-- ---- a store to a table, for any property of a row's places
module _ (R : List ℕ) (i v : ℕ) (l : i < length R) where
  pub at_other : (k j : ℕ) → (k ≡ i → ⊥) → at (set R i v) k j ≡ at R k j
  at_other k j h = ap (λ (x : ℕ). has x j) (get_or-set_other R i k v 0 h)

  at_same : (j : ℕ) → at (set R i v) i j ≡ has v j
  at_same j = ap (λ (x : ℕ). has x j) (get_or-set_same R i v 0 l)

  module _ (P : ℕ → ℕ → Bool → Type 0) (here : (j : ℕ) → P i j (has v j)) where
    at_here : (k j : ℕ) → k ≡ i → P k j (at (set R i v) k j)
    at_here k j e = subst (λ (m : ℕ). P m j (at (set R i v) m j)) (sym e) (subst (P i j) (sym (at_same j)) (here j))

    -- a table that is right from i + 1 on, with row i stored, is right from i on
    pub stored_down : ((k j : ℕ) → i + 1 ≤ k → P k j (at R k j)) → (k j : ℕ) → i ≤ k → P k j (at (set R i v) k j)
    stored_down more k j g = ⊎_elim (λ u. absurd (omega arith))
        (⊎_elim (λ e. at_here k j e) (λ (u : i < k). subst (P k j) (sym (at_other k j (λ e. omega arith))) (more k j (omega arith))))
        (three k i)

-- where both sides have no row past 64, the rows below 64 say it all
pub rows_all : (R : List ℕ) (S : ℕ → ℕ → Bool) → length R ≡ 64 → ((k j : ℕ) → 64 ≤ k → S k j ≡ false) → ((k j : ℕ) → k < 64 → at R k j ≡ S k j)
    → (k j : ℕ) → at R k j ≡ S k j
rows_all R S e out h k j = ⊎_elim (λ (g : k < 64). h k j g) (λ (g : 64 ≤ k). at_out R k j (omega arith) ∙ sym (out k j g)) (lt_or_le k 64)

-- ---- the rows of an entry

pub kept_row : (work : List ℕ) (v i j : ℕ) → i < 64 → kept work v i j ≡ has (get_or work (v * 64 + i) 0) j
unfolding kept
kept_row work v i j u = ap (λ (b : Bool). b && has (get_or work (v * 64 + i) 0) j) (lt-ltb i 64 u)

pub kept_out : (work : List ℕ) (v i j : ℕ) → 64 ≤ i → kept work v i j ≡ false
unfolding kept
kept_out work v i j u = ap (λ (b : Bool). b && has (get_or work (v * 64 + i) 0) j) (le-ltb i 64 u)

-- the rows of entry v are those stored
pub kept_new : (old R new : List ℕ) (v : ℕ) → length R ≡ 64 → Stored old v R 64 new → (i j : ℕ) → kept new v i j ≡ at R i j
kept_new old R new v e s i j = ⊎_elim
    (λ (u : i < 64). kept_row new v i j u ∙ ap (λ (x : ℕ). has x j) (s.rows i u))
    (λ (u : 64 ≤ i). kept_out new v i j u ∙ sym (at_out R i j (omega arith)))
    (lt_or_le i 64)

-- another entry's rows are as they were
pub kept_old : (old R new : List ℕ) (v u : ℕ) → Stored old v R 64 new → (u ≡ v → ⊥) → (i j : ℕ) → kept new u i j ≡ kept old u i j
kept_old old R new v u s n i j = ⊎_elim
    (λ (g : i < 64). kept_row new u i j g ∙ ap (λ (x : ℕ). has x j) (⊎_elim
    (λ (h : u < v). s.below (u * 64 + i) (omega arith))
    (⊎_elim (λ (h : u ≡ v). absurd (n h)) (λ (h : v < u). s.above (u * 64 + i) (omega arith)))
    (three u v)) ∙ sym (kept_row old u i j g))
    (λ (g : 64 ≤ i). kept_out new u i j g ∙ sym (kept_out old u i j g))
    (lt_or_le i 64)
