-- Reach by way of one code after another, over any number of codes m.
use mathlib.Core.Path.{◌≡◌, sym, ◌∙◌, ap, fun_ext}
use mathlib.Core.Logic.{⊎_elim}
use mathlib.Core.List.{List}
use mathlib.Core.Bool.{Bool, true, false, ◌&&◌, ◌||◌}
use Prim.Native.Nat.{ℕ, ◌+◌, ◌-◌, ◌≤◌, ◌<◌}
use native.Mathlib.Omega.{arith}
use lib.Bits.{bit_or}
use lib.ListN.{get_or}
use Rattle.rules.specs.Words.{from}
use Rattle.rules.specs.Mining.{Rel, tabled, through}
use Rattle.rules.proofs.BoolLaws.{bool_ext, or_cases, or_off, and_cases, more_none}
use Rattle.rules.proofs.ListLaws.{Has, has_from, from_down}
use Rattle.code_sets.specs.Bits.{has}
use Rattle.code_sets.proofs.BitLaws.{has_or, has_zero}
use Rattle.graph_rows.specs.Edges.{edge_of}
use Rattle.rules.proofs.GraphLaws.{tabled_in, in_tabled, through_chain, chain_through}

-- a row that has k, with the row of k
pub step_taken : (row by k b : ℕ) → has row k ≡ true → has (bit_or row by) b ≡ (has row b || (has row k && has by b))
step_taken row by k b h = has_or row by b ∙ ap (λ (t : Bool). has row b || (t && has by b)) (sym h)

-- a row without k stays
pub step_left : (row by k b : ℕ) → has row k ≡ false → has row b ≡ (has row b || (has row k && has by b))
step_left row by k b h = sym (or_off (has row b)) ∙ ap (λ (t : Bool). has row b || (t && has by b)) (sym h)

-- no way leads on through a code whose row is empty
pub no_way : (rows : List ℕ) (j : ℕ) → get_or rows j 0 ≡ 0 → (a b : ℕ) → edge_of rows a b ≡ (edge_of rows a b || (edge_of rows a j && edge_of rows j b))
unfolding edge_of
no_way rows j e a b = sym (ap (λ (r : ℕ). edge_of rows a b || (edge_of rows a j && has r b)) e ∙ ap (λ (t : Bool). edge_of rows a b || (edge_of rows a j && t)) (has_zero b) ∙ more_none (edge_of rows a b) (edge_of rows a j))

-- a relation between the m codes is its own table
tabled_all : (m : ℕ) (e : Rel) → ((a b : ℕ) → e a b ≡ true → (a < m) × (b < m)) → (a b : ℕ) → e a b ≡ tabled (from 0 m) e a b
tabled_all m e at a b =
    bool_ext (e a b) (tabled (from 0 m) e a b)
    (λ h. let l = at a b h in tabled_in e (from 0 m) a b (has_from m 0 a (omega arith) (omega arith)) (has_from m 0 b (omega arith) (omega arith)) h)
    (λ h. (in_tabled e (from 0 m) a b h).2)

-- the turn at the code j
pub through_turn : (m : ℕ) (e : Rel) (k j : ℕ) → j + 1 ≡ k → k ≤ m → (out next : Rel) →
    ((a b : ℕ) → out a b ≡ true → (a < m) × (b < m)) →
    ((a b : ℕ) → out a b ≡ through (from 0 m) (from k (m - k)) e a b) →
    ((a b : ℕ) → next a b ≡ (out a b || (out a j && out j b))) →
    (a b : ℕ) → next a b ≡ through (from 0 m) (from j (m - j)) e a b
unfolding through
through_turn m e k j s l out next at inv turn a b =
    let by : Rel = λ x y. out x y || (out x j && out j y) in
    let in_by : (x y : ℕ) → by x y ≡ true → (x < m) × (y < m) =
    λ x y h. ⊎_elim (λ i. at x y i) (λ i. let q = and_cases (out x j) (out j y) i in ((at x j q.0).0, (at j y q.1).1)) (or_cases (out x y) (out x j && out j y) h) in
    turn a b ∙ tabled_all m by in_by a b
    ∙ ap (λ (t : Rel). tabled (from 0 m) (λ x y. t x y || (t x j && t j y)) a b) (fun_ext (λ (x : ℕ). fun_ext (λ (y : ℕ). inv x y)))
    ∙ ap (λ (ks : List ℕ). through (from 0 m) ks e a b) (sym (from_down m k j s l))

-- THEOREM: reach among some codes that have all edges is reach among all codes
pub through_within : (e : Rel) (cs ds : List ℕ) → ((a b : ℕ) → e a b ≡ true → Has a cs × Has b cs) → ((a b : ℕ) → e a b ≡ true → Has a ds × Has b ds) →
    (a b : ℕ) → through cs cs e a b ≡ through ds ds e a b
through_within e cs ds ic id a b =
    bool_ext (through cs cs e a b) (through ds ds e a b) (λ h. chain_through ds e id (through_chain cs e ic cs a b h)) (λ h. chain_through cs e ic (through_chain ds e id ds a b h))
