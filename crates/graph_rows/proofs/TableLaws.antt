-- Tables of m rows of m places: what owning one tells, its edges, and a table that a loop fills row by row.
use mathlib.Core.Path.{◌≡◌, refl, sym, ap, ap₂, subst, ◌∙◌}
use mathlib.Core.Logic.{⊎_elim}
use mathlib.Core.List.{List, [], ◌∷◌, map, map-id}
use mathlib.Core.Bool.{Bool, true, false, ◌||◌, ◌&&◌}
use Prim.Native.Nat.{ℕ, zero, suc, ◌+◌, ◌*◌, ◌%◌, ◌^◌, ◌≤◌, ◌<◌}
use native.Mathlib.Omega.{arith}
use borrow.Author.Count.{below_more}
use borrow.Author.Tests.{eqb-true, eqb-false, lt-ltb, le-ltb}
use lib.Dec.{eqb, ltb}
use lib.Bits.{bit_or}
use lib.ListN.{length, get_or, set, length-set}
use lib.Seq.{get_or-set_same, get_or-set_other}
use lib.Pow.{pow_pos}
use mir.Syntax.{Width, w32}
use mir.Val.{Val, bits}
use denote.Shadow.{shadow}
use denote.Array as array
use denote.Plain.{UInt}
use denote.Laws.{Is}
use Rattle.rules.specs.Calls.{code_count}
use Rattle.code_sets.specs.Bits.{has}
use Rattle.code_sets.proofs.BitLaws.{has_zero, has_high, has_or, has_pow, one_shl, lt_or_le}
use Rattle.rules.proofs.BoolLaws.{bool_cases, not_both_lem, or_off}
use Rattle.graph_rows.specs.Edges.{edge_of}

pub record Table (m : ℕ) (rows : List ℕ) : Type 0 where
  pub size : length rows ≡ m
  pub fits : (i : ℕ) → get_or rows i 0 < 2 ^ m

-- each element of an owned array fits its width
fits_each : (w : Width) (xs : List ℕ) (us : List Val) → shadow (array.each ℕ (UInt w).own_val xs us) → (i : ℕ) → get_or xs i 0 < 2 ^ bits w
fits_each w [] us s i = pow_pos (bits w)
fits_each w (x ∷ xs) [] s i = absurd s
fits_each w (x ∷ xs) (u ∷ us) s zero = s.0.1
fits_each w (x ∷ xs) (u ∷ us) s (suc i) = fits_each w xs us s.1 i

-- what owning an array of rows tells
pub owned : (xs : List ℕ) (vs : List Val) → Is (array.Array (UInt w32) code_count) xs vs → Table code_count xs
owned xs vs p = record { size = p.1.0.1; fits = fits_each w32 xs p.0 p.1.1 }

-- what owning a struct tells of its array of rows
pub owned_field : (xs : List ℕ) (vs : List Val) → Is (array.Array (UInt w32) code_count) (map (λ v. v) xs) vs → Table code_count xs
owned_field xs vs p = subst (Table code_count) (map-id xs) (owned (map (λ v. v) xs) vs p)

-- ---- the edges of a table

past : (rows : List ℕ) (a : ℕ) → length rows ≤ a → ◌≡◌ {A = ℕ} (get_or rows a 0) 0
past [] a h = refl
past (x ∷ xs) zero h = absurd (omega arith)
past (x ∷ xs) (suc a) h = past xs a (omega arith)

-- there is no edge from a code past the last row
pub edge_past : (rows : List ℕ) (a b : ℕ) → length rows ≤ a → edge_of rows a b ≡ false
unfolding edge_of
edge_past rows a b h = ap (λ (x : ℕ). has x b) (past rows a h) ∙ has_zero b

-- nor to one past the last place
pub edge_high : (m : ℕ) (rows : List ℕ) → Table m rows → (a b : ℕ) → m ≤ b → edge_of rows a b ≡ false
unfolding edge_of
edge_high m rows t a b h = has_high m (get_or rows a 0) b (t.fits a) h

-- an edge is between two of the m codes
pub edge_below : (m : ℕ) (rows : List ℕ) → Table m rows → (a b : ℕ) → edge_of rows a b ≡ true → (a < m) × (b < m)
edge_below m rows t a b h = (
  ⊎_elim (λ (l : a < m). l) (λ (l : m ≤ a). not_both_lem (edge_of rows a b) h (edge_past rows a b (omega (arith, t.size)))) (lt_or_le a m),
  ⊎_elim (λ (l : b < m). l) (λ (l : m ≤ b). not_both_lem (edge_of rows a b) h (edge_high m rows t a b l)) (lt_or_le b m),
)

-- ---- a table that a loop fills row by row

-- rows below i have Q, the others are as they were
pub record Filled (Q : ℕ → ℕ → Type 0) (a₀ : List ℕ) (i : ℕ) (a : List ℕ) : Type 0 where
  pub size : length a ≡ length a₀
  pub below : (j : ℕ) → j < i → Q j (get_or a j 0)
  pub above : (j : ℕ) → i ≤ j → get_or a j 0 ≡ get_or a₀ j 0

pub fill_more : (Q : ℕ → ℕ → Type 0) (a₀ a : List ℕ) (i v : ℕ) → i < length a₀ → Filled Q a₀ i a → Q i v → Filled Q a₀ (i + 1) (set a i v)
fill_more Q a₀ a i v l d q =
    record {
      size = length-set a i v ∙ d.size;
      below = below_more (λ j. Q j (get_or (set a i v) j 0)) i
          (λ j h. subst (Q j) (sym (get_or-set_other a i j v 0 (λ p. omega arith))) (d.below j h))
          (subst (Q i) (sym (get_or-set_same a i v 0 (omega (arith, d.size)))) q);
      above = λ j h. get_or-set_other a i j v 0 (λ p. omega arith) ∙ d.above j (omega arith);
    }

-- a filled table has the edges that Q says, and none past its last row
pub filled_edge : (R : ℕ → ℕ → Bool) (a₀ : List ℕ) (a : List ℕ) (i : ℕ) → length a₀ ≤ i → Filled (λ j v. (b : ℕ) → has v b ≡ R j b) a₀ i a →
    ((j b : ℕ) → length a₀ ≤ j → R j b ≡ false) → (j b : ℕ) → edge_of a j b ≡ R j b
unfolding edge_of
filled_edge R a₀ a i l d n j b =
    ⊎_elim (λ (h : j < length a₀). d.below j (omega arith) b) (λ (h : length a₀ ≤ j). edge_past a j b (omega (arith, d.size)) ∙ sym (n j b h)) (lt_or_le j (length a₀))

-- ---- a set that a loop fills place by place

pub and_off : (b : Bool) → (b && false) ≡ false
and_off true = refl
and_off false = refl

pub and_on : (b : Bool) → (b && true) ≡ b
and_on true = refl
and_on false = refl

pub ltb_more : (a i : ℕ) → (a ≡ i → ⊥) → ltb a i ≡ ltb a (i + 1)
ltb_more a i n = ⊎_elim (λ (h : a < i). lt-ltb a i h ∙ sym (lt-ltb a (i + 1) (omega arith))) (λ (h : i ≤ a). le-ltb a i h ∙ sym (le-ltb a (i + 1) (omega arith))) (lt_or_le a i)

-- the places that pass a test: none yet
pub places_none : (t : ℕ → Bool) (a : ℕ) → has 0 a ≡ (ltb a 0 && t a)
places_none t a = has_zero a ∙ sym (ap (λ (b : Bool). b && t a) (le-ltb a 0 (omega arith)))

-- the place i, where the test holds
pub places_more : (m : ℕ) (t : ℕ → Bool) (set i : ℕ) → i < m → t i ≡ true → ((a : ℕ) → has set a ≡ (ltb a i && t a)) →
    (a : ℕ) → has (bit_or set ((1 * 2 ^ i) % 2 ^ m)) a ≡ (ltb a (i + 1) && t a)
places_more m t set i l e h a =
    has_or set ((1 * 2 ^ i) % 2 ^ m) a
    ∙ ap₂ ◌||◌ (h a) (ap (λ (x : ℕ). has x a) (one_shl m i l) ∙ has_pow i a)
    ∙ ⊎_elim
    (λ (y : eqb a i ≡ true). let q : a ≡ i = eqb-true a i y in
    rw (le-ltb a i (omega arith), lt-ltb a (i + 1) (omega arith), y) (sym (ap t q ∙ e)))
    (λ (y : eqb a i ≡ false). let q = eqb-false a i y in rw y (or_off (ltb a i && t a) ∙ ap (λ (v : Bool). v && t a) (ltb_more a i q)))
    (bool_cases (eqb a i))

-- the place i, where the test fails
pub places_skip : (t : ℕ → Bool) (set i : ℕ) → t i ≡ false → ((a : ℕ) → has set a ≡ (ltb a i && t a)) → (a : ℕ) → has set a ≡ (ltb a (i + 1) && t a)
places_skip t set i e h a =
    h a
    ∙ ⊎_elim
    (λ (y : eqb a i ≡ true). let off : t a ≡ false = ap t (eqb-true a i y) ∙ e in ap (λ (v : Bool). ltb a i && v) off ∙ and_off (ltb a i) ∙ sym (ap (λ (v : Bool). ltb a (i + 1) && v) off ∙ and_off (ltb a (i + 1))))
    (λ (y : eqb a i ≡ false). ap (λ (v : Bool). v && t a) (ltb_more a i (eqb-false a i y)))
    (bool_cases (eqb a i))
