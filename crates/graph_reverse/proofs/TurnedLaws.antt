-- The edges of a table turned, row by row and in a row code by code. Over any number of codes m.
use mathlib.Core.Path.{◌≡◌, refl, sym, ap, ◌∙◌}
use mathlib.Core.Logic.{⊎_elim}
use mathlib.Core.List.{List, [], ◌∷◌}
use mathlib.Core.Bool.{Bool, true, false, ◌||◌, ◌&&◌}
use Prim.Native.Nat.{ℕ, ◌+◌, ◌*◌, ◌%◌, ◌^◌, ◌≤◌, ◌<◌}
use native.Mathlib.Omega.{arith}
use borrow.Author.Tests.{eqb-true, eqb-false, lt-ltb, le-ltb}
use lib.Dec.{eqb, ltb}
use lib.Bits.{bit_or}
use lib.ListN.{length, get_or, set, replicate}
use Rattle.rules.proofs.BoolLaws.{bool_cases, or_off}
use Rattle.rules.specs.Words.{mem}
use Rattle.code_sets.specs.Bits.{has, listed}
use Rattle.code_sets.proofs.BitLaws.{has_with, lt_or_le}
use Rattle.code_sets.proofs.ListedLaws.{mem_fits}
use Rattle.graph_rows.specs.Edges.{edge_of}
use Rattle.graph_rows.proofs.TableLaws.{edge_past, and_on, and_off, ltb_more}
use Rattle.graph_rows.proofs.EdgeLaws.{edge_here, edge_other, edge_none}

-- the edges to a code k and to later ones: those to k, and then the others
apart : (e t r x : Bool) → (e || ((t || r) && x)) ≡ ((e || (t && x)) || (r && x))
apart e t r false = rw (and_off (t || r), and_off t, and_off r) (sym (or_off (e || false)))
apart e true r true = one e (r && true)
  where
    one : (a b : Bool) → (a || true) ≡ ((a || true) || b)
    one true b = refl
    one false b = refl
apart e false r true = ap (λ (a : Bool). a || (r && true)) (sym (or_off e))

-- the edge to the next code k is turned: the later ones are left
pub turned_more : (m : ℕ) (out : List ℕ) (a k : ℕ) (now later : List ℕ) → a < m → k < length out → now ≡ k ∷ later →
    (c b : ℕ) → (edge_of out c b || (mem c now && eqb b a)) ≡ (edge_of (set out k (bit_or (get_or out k 0) ((1 * 2 ^ a) % 2 ^ m))) c b || (mem c later && eqb b a))
unfolding edge_of
turned_more m out a k now later la room e c b =
    let v = bit_or (get_or out k 0) ((1 * 2 ^ a) % 2 ^ m) in
    let w : edge_of (set out k v) c b ≡ (edge_of out c b || (eqb c k && eqb b a)) =
    ⊎_elim
    (λ (y : eqb c k ≡ true). edge_here out k v room c b y ∙ has_with m (get_or out k 0) a b la ∙ ap (λ (i : ℕ). has (get_or out i 0) b || eqb b a) (sym (eqb-true c k y)) ∙ rw y refl)
    (λ (y : eqb c k ≡ false). edge_other out k v room c b y ∙ rw y (sym (or_off (edge_of out c b))))
    (bool_cases (eqb c k)) in
    rw (e, w) (apart (edge_of out c b) (eqb c k) (mem c later) (eqb b a))

-- no code is left
pub turned_all : (m : ℕ) (first out : List ℕ) (row a : ℕ) (left : List ℕ) → row < 2 ^ m → left ≡ [] →
    ((c b : ℕ) → (edge_of first c b || (mem c (listed m row) && eqb b a)) ≡ (edge_of out c b || (mem c left && eqb b a))) → (c b : ℕ) → edge_of out c b ≡ (edge_of first c b || (has row c && eqb b a))
turned_all m first out row a left l e h c b =
    sym (ap (λ (t : Bool). edge_of first c b || (t && eqb b a)) (sym (mem_fits m row l c)) ∙ h c b ∙ ap (λ (xs : List ℕ). edge_of out c b || (mem c xs && eqb b a)) e ∙ or_off (edge_of out c b))

-- no row is turned yet
pub rows_none : (m : ℕ) (rows : List ℕ) (c b : ℕ) → edge_of (replicate m 0) c b ≡ (ltb b 0 && edge_of rows b c)
rows_none m rows c b = edge_none m c b ∙ sym (ap (λ (t : Bool). t && edge_of rows b c) (le-ltb b 0 (omega arith)))

-- the row a is turned after those before it
pub rows_more : (rows old new : List ℕ) (a : ℕ) → ((c b : ℕ) → edge_of old c b ≡ (ltb b a && edge_of rows b c)) →
    ((c b : ℕ) → edge_of new c b ≡ (edge_of old c b || (edge_of rows a c && eqb b a))) → (c b : ℕ) → edge_of new c b ≡ (ltb b (a + 1) && edge_of rows b c)
rows_more rows old new a h more c b =
    more c b ∙ ap (λ (t : Bool). t || (edge_of rows a c && eqb b a)) (h c b)
    ∙ ⊎_elim
    (λ (y : eqb b a ≡ true). let q : b ≡ a = eqb-true b a y in
    rw (le-ltb b a (omega arith), lt-ltb b (a + 1) (omega arith), y) (and_on (edge_of rows a c) ∙ ap (λ (i : ℕ). edge_of rows i c) (sym q)))
    (λ (y : eqb b a ≡ false). rw (y, and_off (edge_of rows a c)) (or_off (ltb b a && edge_of rows b c) ∙ ap (λ (t : Bool). t && edge_of rows b c) (ltb_more b a (eqb-false b a y))))
    (bool_cases (eqb b a))

-- every row is turned
pub rows_all : (rows : List ℕ) (a : ℕ) → length rows ≤ a → (c b : ℕ) → (ltb b a && edge_of rows b c) ≡ edge_of rows b c
rows_all rows a l c b =
    ⊎_elim (λ (h : b < a). ap (λ (t : Bool). t && edge_of rows b c) (lt-ltb b a h))
    (λ (h : a ≤ b). ap (λ (t : Bool). t && edge_of rows b c) (le-ltb b a h) ∙ sym (edge_past rows b c (omega arith))) (lt_or_le b a)
