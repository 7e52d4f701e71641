-- Rows cut down, from the last place to the first.
use Prim.Native.Nat.{ℕ, ◌+◌, ◌-◌, ◌*◌, ◌^◌, ◌≤◌, ◌<◌}
use native.Mathlib.Omega.{arith}
use mathlib.Core.List.{List, [], ◌++◌, append-nil}
use mathlib.Core.Path.{◌≡◌, sym, ap, ap₂, ◌∙◌}
use mathlib.Core.Logic.{⊎_elim}
use mathlib.Core.Bool.{Bool, false, ◌&&◌}
use borrow.Rule.Slice.PartMut.{put_mid}
use lib.ListN.{length, get_or, set, take, drop, replicate, length-append, length-drop, length-set, length-replicate, get_or-replicate, get_or-append, drop_of_length-le}
use lib.Seq.{get_or-take, get_or-drop, get_or-append_right, get_or-set_other, length-take-le}
use lib.Bits.{bit_and}
use Rattle.code_sets.specs.Bits.{has}
use Rattle.code_sets.proofs.BitLaws.{lt_or_le, has_zero, has_and, has_full}
use Rattle.judge_rows.specs.Rows.{at, between, clear, kept}
use Rattle.judge_rows.proofs.RunLaws.{and_off, between_below, between_above, between_past}
use Rattle.judge_rows.proofs.TableLaws.{zeros_at, at_out, stored_down, kept_row, kept_out}

-- the rows from i on are cut down, and those before are as they were
pub record Cut (B : ℕ → Bool) (e old : List ℕ) (i : ℕ) (rows : List ℕ) : Type 0 where
  pub size : length rows ≡ 64
  pub from : (k j : ℕ) → i ≤ k → at rows k j ≡ (at old k j && between (clear B) e k j)
  pub before : (k : ℕ) → k < i → get_or rows k 0 ≡ get_or old k 0

-- a table whose rows from a on become zero
module _ (old zs : List ℕ) (a n : ℕ) (s : length old ≡ 64) (h : a + n ≡ 64) (z : zs ≡ replicate n 0) where
  emptied : put_mid a (length old - a) old zs ≡ take a old ++ replicate n 0
  emptied =
      let none : drop (length old - a) (drop a old) ≡ [] = drop_of_length-le (drop a old) (omega (arith, length-drop a old)) in
      ap (λ (t : List ℕ). take a old ++ (zs ++ t)) none ∙ ap (λ (t : List ℕ). take a old ++ t) (append-nil zs ∙ z)

  front : length (take a old) ≡ a
  front = length-take-le a old (omega arith)

  emptied_size : length (put_mid a (length old - a) old zs) ≡ 64
  emptied_size = ap length emptied ∙ length-append (take a old) (replicate n 0) ∙ (let f = front in let r = length-replicate n (let x : ℕ = 0 in x) in omega arith)

  emptied_before : (k : ℕ) → k < a → get_or (put_mid a (length old - a) old zs) k 0 ≡ get_or old k 0
  emptied_before k g = let f = front in ap (λ (t : List ℕ). get_or t k 0) emptied ∙ get_or-append (take a old) (replicate n 0) 0 k (omega arith) ∙ get_or-take a old k 0 g

  emptied_from : (k : ℕ) → a ≤ k → get_or (put_mid a (length old - a) old zs) k 0 ≡ 0
  emptied_from k g = let f = front in
      ap (λ (t : List ℕ). get_or t k 0) emptied ∙ get_or-append_right (take a old) (replicate n 0) k 0 (omega arith) ∙ zeros_at n (k - length (take a old))

module _ (B : ℕ → Bool) (e old : List ℕ) where
  pub cut_past : (zs : List ℕ) (n : ℕ) → length old ≡ 64 → length e + 1 + n ≡ 64 → zs ≡ replicate n 0
      → Cut B e old (length e + 1) (put_mid (length e + 1) (length old - (length e + 1)) old zs)
  cut_past zs n s h z = record {
    size = emptied_size old zs (length e + 1) n s h z;
    from = λ k j g. ap (λ (x : ℕ). has x j) (emptied_from old zs (length e + 1) n s h z k g) ∙ has_zero j
        ∙ sym (ap (λ (t : Bool). at old k j && t) (between_past (clear B) e k j (omega arith)) ∙ and_off (at old k j));
    before = emptied_before old zs (length e + 1) n s h z;
  }

  pub cut_turn : (i : ℕ) (rows : List ℕ) (w : ℕ) → i < 64 → ((j : ℕ) → has w j ≡ between (clear B) e i j)
      → Cut B e old (i + 1) rows → Cut B e old i (set rows i (bit_and (get_or rows i 0) w))
  cut_turn i rows w h run k =
      let s = k.size in
      let x : ℕ = bit_and (get_or rows i 0) w in
      record {
        size = length-set rows i x ∙ s;
        from = stored_down rows i x (omega arith) (λ m j t. t ≡ (at old m j && between (clear B) e m j))
            (λ j. has_and (get_or rows i 0) w j ∙ ap₂ ◌&&◌ (ap (λ (y : ℕ). has y j) (k.before i (omega arith))) (run j)) k.from;
        before = λ m g. get_or-set_other rows i m x 0 (λ e. omega arith) ∙ k.before m (omega arith);
      }

-- a table of all places, cut down, has those with no blocked event on the way
pub whole_cut : (B : ℕ → Bool) (e : List ℕ) (i j : ℕ) → length e ≤ 63 → (at (replicate 64 (2 ^ 64 - 1)) i j && between (clear B) e i j) ≡ between (clear B) e i j
whole_cut B e i j s =
    let all = at (replicate 64 (2 ^ 64 - 1)) i j in
    let none : between (clear B) e i j ≡ false → (all && between (clear B) e i j) ≡ between (clear B) e i j = λ q. ap (λ (t : Bool). all && t) q ∙ and_off all ∙ sym q in
    ⊎_elim (λ (g : j < i). none (between_below (clear B) e i j g))
    (λ (h : i ≤ j). ⊎_elim (λ (g : length e < j). none (between_above (clear B) e i j g))
    (λ (l : j ≤ length e). ap (λ (t : Bool). t && between (clear B) e i j)
    (ap (λ (x : ℕ). has x j) (get_or-replicate 64 i (2 ^ 64 - 1) 0 (omega arith)) ∙ has_full 64 j (omega arith)))
    (lt_or_le (length e) j))
    (lt_or_le j i)

-- the rows of an entry, copied
pub copied_row : (work copy : List ℕ) (v i j : ℕ) → v * 64 + 64 ≤ length work → copy ≡ take (v * 64 + 64 - v * 64) (drop (v * 64) work) → at copy i j ≡ kept work v i j
copied_row work copy v i j l e =
    let n : v * 64 + 64 - v * 64 ≡ 64 = omega arith in
    let is : copy ≡ take 64 (drop (v * 64) work) = e ∙ ap (λ (m : ℕ). take m (drop (v * 64) work)) n in
    let long = length-take-le 64 (drop (v * 64) work) (omega (arith, length-drop (v * 64) work)) in
    ⊎_elim
    (λ (g : i < 64). ap (λ (r : List ℕ). at r i j) is ∙ ap (λ (x : ℕ). has x j) (get_or-take 64 (drop (v * 64) work) i 0 g ∙ get_or-drop (v * 64) work i 0) ∙ sym (kept_row work v i j g))
    (λ (g : 64 ≤ i). at_out copy i j (omega (arith, ap length is)) ∙ sym (kept_out work v i j g))
    (lt_or_le i 64)
