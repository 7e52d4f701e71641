-- A loop, row by row from the last to the first: the loop from a place, and a redo from a place with the loop after it.
use Prim.Native.Nat.{ℕ, ◌+◌, ◌≤◌, ◌<◌}
use native.Mathlib.Omega.{arith}
use mathlib.Core.Path.{◌≡◌, refl, sym, ◌∙◌, subst}
use mathlib.Core.Logic.{⊎_elim}
use mathlib.Core.Bool.{Bool, true, false, ◌&&◌, ◌||◌, false≢true}
use lib.Bits.{bit_or}
use Rattle.rules.proofs.BoolLaws.{or_left, or_right, or_cases, and_both, and_cases}
use Rattle.code_sets.specs.Bits.{has, any_below}
use Rattle.code_sets.proofs.BitLaws.{lt_or_le, has_or}
use Rattle.code_sets.proofs.AnyLaws.{any_some, any_here}
use Rattle.judge_rows.specs.Rows.{Loops, once, again, Says, Upper}
use Rattle.judge_rows.proofs.RunLaws.{three}

-- a redo, and then the loop
abbrev pub Tail : (ℕ → ℕ → Bool) → (ℕ → ℕ → Bool) → ℕ → ℕ → Type 0
Tail A B k j = (m : ℕ) × (B k m ≡ true) × Loops A B m j

-- no loop starts past the last row
pub loops_out : (A B : ℕ → ℕ → Bool) → Upper A → (k j : ℕ) → 64 ≤ k → Loops A B k j → ⊥
unfolding Upper
loops_out A B hA k j g (once p) = omega (arith, hA k j p)
loops_out A B hA k j g (again {k = u} p q l) = omega (arith, hA k u p)

-- nor a redo
pub tail_out : (A B : ℕ → ℕ → Bool) → Upper B → (k j : ℕ) → 64 ≤ k → Tail A B k j → ⊥
unfolding Upper
tail_out A B hB k j g (m, q, l) = omega (arith, hB k m q)

-- row i: a body from i; or a body to a later place and its tail; or an empty body, a redo to a later place and the loop.
-- With an empty body and an empty redo that place is i itself: that gives no other place.
module _ (A B : ℕ → ℕ → Bool) (hA : Upper A) (hB : Upper B) (i : ℕ) (rows tails : ℕ → ℕ → Bool)
    (low : (k j : ℕ) → k < i + 1 → rows k j ≡ false) (low-tails : (k j : ℕ) → k < i + 1 → tails k j ≡ false)
    (high : (k j : ℕ) → i + 1 ≤ k → Says (rows k j) (Loops A B k j)) (high-tails : (k j : ℕ) → i + 1 ≤ k → Says (tails k j) (Tail A B k j))
    (x past later row tail : ℕ)
    (hx : (j : ℕ) → has x j ≡ A i j)
    (hp : (j : ℕ) → has past j ≡ any_below 64 (λ k. A i k && tails k j))
    (hl : (j : ℕ) → has later j ≡ any_below 64 (λ m. B i m && rows m j))
    (hr : (j : ℕ) → has row j ≡ (has (bit_or x past) j || (A i i && has later j)))
    (ht : (j : ℕ) → has tail j ≡ (has later j || (B i i && has row j))) where
  later_sound : (j : ℕ) → has later j ≡ true → Tail A B i j
  later_sound j e =
      let s = any_some 64 (λ m. B i m && rows m j) (sym (hl j) ∙ e) in
      let m = s.0 in
      let b = and_cases (B i m) (rows m j) s.2 in
      (m, b.0, ⊎_elim (λ (g : m < i + 1). absurd (false≢true (sym (low m j g) ∙ b.1))) (λ (g : i + 1 ≤ m). (high m j g).0 b.1) (lt_or_le m (i + 1)))

  later_complete : (m j : ℕ) → i < m → B i m ≡ true → Loops A B m j → has later j ≡ true
  unfolding Upper
  later_complete m j g q l = hl j ∙ any_here 64 (λ n. B i n && rows n j) m (hB i m q).1 (and_both (B i m) (rows m j) q ((high m j (omega arith)).1 l))

  past_sound : (j : ℕ) → has past j ≡ true → Loops A B i j
  past_sound j e =
      let s = any_some 64 (λ k. A i k && tails k j) (sym (hp j) ∙ e) in
      let k = s.0 in
      let b = and_cases (A i k) (tails k j) s.2 in
      ⊎_elim (λ (g : k < i + 1). absurd (false≢true (sym (low-tails k j g) ∙ b.1)))
      (λ (g : i + 1 ≤ k). let t = (high-tails k j g).0 b.1 in again b.0 t.1 t.2)
      (lt_or_le k (i + 1))

  sound : (j : ℕ) → has row j ≡ true → Loops A B i j
  sound j e = ⊎_elim
      (λ h. ⊎_elim (λ p. once (sym (hx j) ∙ p)) (past_sound j) (or_cases (has x j) (has past j) (sym (has_or x past j) ∙ h)))
      (λ h. let b = and_cases (A i i) (has later j) h in let t = later_sound j b.1 in again b.0 t.1 t.2)
      (or_cases (has (bit_or x past) j) (A i i && has later j) (sym (hr j) ∙ e))

  in_first : (j : ℕ) → has (bit_or x past) j ≡ true → has row j ≡ true
  in_first j h = hr j ∙ or_left (has (bit_or x past) j) (A i i && has later j) h

  complete : {k j : ℕ} → k ≡ i → Loops A B k j → has row j ≡ true
  unfolding Upper
  complete {j = j} e (once p) = in_first j (has_or x past j ∙ or_left (has x j) (has past j) (hx j ∙ subst (λ (n : ℕ). A n j ≡ true) e p))
  complete {j = j} e (again {i = k} {k = u} {m = m} p q l) =
      let p' : A i u ≡ true = subst (λ (n : ℕ). A n u ≡ true) e p in
      let a = hA i u p' in
      let b = hB u m q in
      ⊎_elim (λ (g : u < i). absurd (omega arith))
      (⊎_elim
      (λ (g : u ≡ i). let own : A i i ≡ true = subst (λ (n : ℕ). A i n ≡ true) g p' in
      let from : B i m ≡ true = subst (λ (n : ℕ). B n m ≡ true) g q in
      ⊎_elim (λ (h : m < i). absurd (omega arith))
      (⊎_elim (λ (h : m ≡ i). complete h l)
      (λ (h : i < m). hr j ∙ or_right (has (bit_or x past) j) (A i i && has later j) (and_both (A i i) (has later j) own (later_complete m j h from l))))
      (three m i))
      (λ (g : i < u). in_first j (has_or x past j ∙ or_right (has x j) (has past j)
      (hp j ∙ any_here 64 (λ n. A i n && tails n j) u a.1 (and_both (A i u) (tails u j) p' ((high-tails u j (omega arith)).1 (m, q, l)))))))
      (three u i)

  pub loop_row : (j : ℕ) → Says (has row j) (Loops A B i j)
  loop_row j = (sound j, complete refl)

  tail_complete : (j : ℕ) → Tail A B i j → has tail j ≡ true
  unfolding Upper
  tail_complete j (m, q, l) =
      let b = hB i m q in
      ⊎_elim (λ (g : m < i). absurd (omega arith))
      (⊎_elim
      (λ (g : m ≡ i). ht j ∙ or_right (has later j) (B i i && has row j) (and_both (B i i) (has row j) (subst (λ (n : ℕ). B i n ≡ true) g q) (complete g l)))
      (λ (g : i < m). ht j ∙ or_left (has later j) (B i i && has row j) (later_complete m j g q l)))
      (three m i)

  pub loop_tail : (j : ℕ) → Says (has tail j) (Tail A B i j)
  loop_tail j = (
    λ e. ⊎_elim (later_sound j) (λ h. let b = and_cases (B i i) (has row j) h in (i, b.0, sound j b.1)) (or_cases (has later j) (B i i && has row j) (sym (ht j) ∙ e)),
    tail_complete j,
  )
