-- Edges of rows of which one is written, over any number of codes m.
use mathlib.Core.Path.{◌≡◌, refl, sym, ap, ◌∙◌}
use mathlib.Core.Logic.{⊎_elim}
use mathlib.Core.List.{List}
use mathlib.Core.Bool.{Bool, true, false, ◌||◌, ◌&&◌}
use Prim.Native.Nat.{ℕ, zero, suc, ◌<◌}
use lib.Dec.{eqb, ltb}
use lib.ListN.{length, get_or, set, replicate}
use lib.Seq.{get_or-set_same, get_or-set_other}
use borrow.Author.Tests.{eqb-true, eqb-false, lt-ltb}
use Rattle.code_sets.specs.Bits.{has}
use Rattle.code_sets.proofs.BitLaws.{has_zero}
use Rattle.rules.proofs.BoolLaws.{bool_cases, or_off}
use Rattle.graph_rows.specs.Edges.{edge_of}

-- row a is the row v, and no other row changes
module _ (rows : List ℕ) (a v : ℕ) (l : a < length rows) where
  pub edge_here : (i j : ℕ) → eqb i a ≡ true → edge_of (set rows a v) i j ≡ has v j
  unfolding edge_of
  edge_here i j e =
      ap (λ (k : ℕ). has (get_or (set rows a v) k 0) j) (eqb-true i a e) ∙ ap (λ (x : ℕ). has x j) (get_or-set_same rows a v 0 l)

  pub edge_other : (i j : ℕ) → eqb i a ≡ false → edge_of (set rows a v) i j ≡ edge_of rows i j
  unfolding edge_of
  edge_other i j e = ap (λ (x : ℕ). has x j) (get_or-set_other rows a i v 0 (eqb-false i a e))

and_off : (a b c : Bool) → (a && b && false && c) ≡ false
and_off true true c = refl
and_off true false c = refl
and_off false b c = refl

-- a row with one more place is one more pair
pub edge_more : (m : ℕ) (rows : List ℕ) (a b v : ℕ) → a < length rows → a < m → ((j : ℕ) → has v j ≡ (has (get_or rows a 0) j || (ltb b m && eqb j b))) →
    (i j : ℕ) → edge_of (set rows a v) i j ≡ (edge_of rows i j || (ltb a m && ltb b m && eqb i a && eqb j b))
unfolding edge_of
edge_more m rows a b v l s h i j =
    ⊎_elim
    (λ (e : eqb i a ≡ true).
    edge_here rows a v l i j e ∙ h j ∙ ap (λ (k : ℕ). has (get_or rows k 0) j || (ltb b m && eqb j b)) (sym (eqb-true i a e))
    ∙ rw (lt-ltb a m s, e) (ap (λ (t : Bool). has (get_or rows i 0) j || (t && eqb j b)) (and_on (ltb b m))))
    (λ (e : eqb i a ≡ false). edge_other rows a v l i j e ∙ rw (e, and_off (ltb a m) (ltb b m) (eqb j b)) (sym (or_off (edge_of rows i j))))
    (bool_cases (eqb i a))
  where
    and_on : (t : Bool) → t ≡ (t && true)
    and_on true = refl
    and_on false = refl

-- rows of no codes have no edge
zero_at_lem : (n i : ℕ) → ◌≡◌ {A = ℕ} (get_or (replicate n 0) i 0) 0
zero_at_lem zero i = refl
zero_at_lem (suc n) zero = refl
zero_at_lem (suc n) (suc i) = zero_at_lem n i

pub edge_none : (n i j : ℕ) → edge_of (replicate n 0) i j ≡ false
unfolding edge_of
edge_none n i j = ap (λ (x : ℕ). has x j) (zero_at_lem n i) ∙ has_zero j
