-- Groups in the order of reach: from tables, and as the rules have them.
use mathlib.Core.Path.{◌≡◌, ◌∙◌, ap, fun_ext}
use mathlib.Core.List.{List}
use mathlib.Core.Bool.{true}
use Prim.Native.Nat.{ℕ}
use native.Mathlib.Omega.{arith}
use Rattle.rules.specs.Words.{from}
use Rattle.rules.specs.Mining.{Rel, through, reach, components, together, ordered, sequence_parts}
use Rattle.rules.specs.Calls.{code_count}
use Rattle.rules.proofs.ListLaws.{has_from}
use Rattle.code_sets.specs.Bits.{has, listed}
use Rattle.code_sets.proofs.ListedLaws.{listed_has}
use Rattle.graph_rows.specs.Edges.{edge_of}
use Rattle.graph_reverse.specs.Reverse.{Back}
use Rattle.graph_rows.proofs.TableLaws.{Table, edge_below}
use Rattle.graph_reach.proofs.ReachLaws.{through_within}
use Rattle.cut_components.specs.declared.Bond.TheVariants.{Alike}
use Rattle.cut_components.specs.Joined.{bonded}
use Rattle.cut_components.proofs.BondLaws.{drawn, back_is}
use Rattle.cut_sequence.specs.Order.{reached, in_sequence}

-- the groups by a table of reach and its edges the other way, put in order
pub grouped_is : (rows to back : List ℕ) (kept : ℕ) → ((a b : ℕ) → edge_of to a b ≡ through (from 0 code_count) (from 0 code_count) (edge_of rows) a b) → Back to back →
    (ps out : List (List ℕ)) → ps ≡ components (λ a b. bonded Alike (edge_of to a b) (edge_of back a b)) (listed code_count kept) → out ≡ ordered (edge_of to) ps → out ≡ in_sequence rows kept
unfolding reached in_sequence
grouped_is rows to back kept closed turned ps out e o =
    o ∙ ap (ordered (edge_of to)) (e ∙ ap (λ (r : Rel). components r (listed code_count kept)) (back_is Alike to back turned))
    ∙ ap (λ (r : Rel). ordered r (components (together r) (listed code_count kept))) (fun_ext (λ (a : ℕ). fun_ext (λ (b : ℕ). closed a b)))

module _ (rows : List ℕ) (kept : ℕ) (t : Table code_count rows) (inside : (a b : ℕ) → edge_of rows a b ≡ true → (has kept a ≡ true) × (has kept b ≡ true)) where
  -- where every edge is between codes of the set, reach among all codes is reach among those
  reached_is : (starts ends : ℕ) → reached rows ≡ reach (drawn code_count kept (edge_of rows) starts ends)
  unfolding reached reach
  reached_is starts ends =
      fun_ext (λ (a : ℕ). fun_ext (λ (b : ℕ). through_within (edge_of rows) (from 0 code_count) (listed code_count kept)
      (λ x y h. let l = edge_below code_count rows t x y h in (has_from code_count 0 x (omega arith) (omega arith), has_from code_count 0 y (omega arith) (omega arith)))
      (λ x y h. let l = edge_below code_count rows t x y h in let k = inside x y h in (listed_has code_count kept x l.0 k.0, listed_has code_count kept y l.1 k.1)) a b))

  -- THEOREM: the groups that belong together, in the order of reach, are the parts of the sequence
  pub sequence_is : (starts ends : ℕ) → in_sequence rows kept ≡ sequence_parts (drawn code_count kept (edge_of rows) starts ends)
  unfolding in_sequence sequence_parts
  sequence_is starts ends = ap (λ (r : Rel). ordered r (components (together r) (listed code_count kept))) (reached_is starts ends)
