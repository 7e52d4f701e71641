-- No loop cut by Definition 4 of 003 has more parts than loop: each redo part of such a cut has a component that the rules find.
use mathlib.Core.Path.{◌≡◌, sym, ap}
use mathlib.Core.Logic.{◌≢◌, inl, inr, ⊎_elim}
use mathlib.Core.List.{List, [], ◌∷◌}
use mathlib.Core.Bool.{true, false, not}
use Prim.Native.Nat.{ℕ, zero, suc, ◌≤◌}
use native.Mathlib.Omega.{arith}
use lib.ListN.{length}
use borrow.Author.Tests.{not-true}
use Rattle.rules.specs.Mining.{Log, graph, occurring, either, on_border, is_redo, redo_parts, loop_parts}
use Rattle.rules.proofs.BoolLaws.{bool_cases, not_both_lem, or_cases, or_left, or_right}
use Rattle.rules.proofs.ListLaws.{Has, has_keep, keep_has}
use Rattle.rules.proofs.Occurring.{Below}
use Rattle.rules.proofs.Cuts.{either_sym, rest}
use Rattle.papers.specs.Cuts.{graph_of, Σ, LoopCut, Maximal}
use Rattle.papers.proofs.Graphs.{nodes, edges, starts, ends}
use Rattle.papers.proofs.Partitions.{part_code, only_there}
use Rattle.papers.proofs.Counting.{Kept, within, no_more_passing}
use Rattle.papers.proofs.RedoCodes.{RedoCode, code_redo}
use Rattle.papers.proofs.Loop.{border}

module _ (m : ℕ) (l : Log) (s : Below m l) (q : List ℕ) (qs : List (List ℕ)) (c : LoopCut (graph_of l) (q ∷ qs)) where
  -- the starts and ends are in the first part
  on_border_lem : (a : ℕ) → on_border (graph m l) a ≡ true → Has a q
  on_border_lem a h =
      let g = graph m l in
      c.condition_1 a (⊎_elim (λ k. inl ((starts m l a).0 k)) (λ k. inr ((ends m l a).0 k)) (or_cases (g.start a) (g.end a) h))

  border_first : (a : ℕ) → Has a (border m l) → Has a q
  border_first a i = on_border_lem a (has_keep (on_border (graph m l)) a (occurring m l) i).1

  -- what remains without them
  remains : (a : ℕ) → Has a (rest m l) → Has a (occurring m l) × (on_border (graph m l) a ≡ false)
  unfolding rest
  remains a i = let k = has_keep (λ x. not (on_border (graph m l) x)) a (occurring m l) i in (k.0, not-true (on_border (graph m l) a) k.1)

  -- no edge joins a code of a later part with one of what remains in another part
  parted : (i a b : ℕ) → Has a (Σ qs i) → Has b (rest m l) → either (graph m l).edge a b ≡ true → (j : ℕ) → suc i ≢ j → Has b (Σ (q ∷ qs) j) → ⊥
  parted i a b x ib h zero n y =
      let g = graph m l in
      let off = (remains b ib).1 in
      ⊎_elim
      (λ ab. not_both_lem (on_border g b) (or_left (g.start b) (g.end b) ((starts m l b).1 (c.condition_3 i a b x y ((edges m l s a b).0 ab)))) off)
      (λ ba. not_both_lem (on_border g b) (or_right (g.start b) (g.end b) ((ends m l b).1 (c.condition_2 i a b x y ((edges m l s b a).0 ba)))) off)
      (or_cases (g.edge a b) (g.edge b a) h)
  parted i a b x ib h (suc j) n y =
      let e = (graph m l).edge in
      ⊎_elim (λ ab. c.condition_4 i j (λ k. n (ap suc k)) a b x y ((edges m l s a b).0 ab)) (λ ba. c.condition_4 j i (λ k. n (ap suc (sym k))) b a y x ((edges m l s b a).0 ba))
      (or_cases (e a b) (e b a) h)

  kept : Kept (either (graph m l).edge) (rest m l) qs
  kept i a b x ia ib h = only_there (graph_of l) (q ∷ qs) c.cut (suc i) b ((nodes m l s b).0 (remains b ib).0) (parted i a b x ib h)

  -- a code of a later part is one of a redo part
  later : (i x : ℕ) → Has x (Σ qs i) → RedoCode (graph m l) (border m l) x
  later i x ix =
      record {
        leaves_end = λ a ia h. (ends m l a).1 (c.condition_2 i x a ix (border_first a ia) ((edges m l s a x).0 h));
        reaches_start = λ a ia h. (starts m l a).1 (c.condition_3 i x a ix (border_first a ia) ((edges m l s x a).0 h));
        to_starts = λ d a id h ia st. (edges m l s x a).1 ((c.condition_5 i x a ix ((starts m l a).0 st)).0 (d, border_first d id, (edges m l s x d).0 h));
        from_ends = λ d a id h ia en. (edges m l s a x).1 ((c.condition_6 i x a ix ((ends m l a).0 en)).0 (d, border_first d id, (edges m l s d x).0 h));
      }

  in_rest : (i a : ℕ) → Has a (Σ qs i) → Has a (occurring m l) → Has a (rest m l)
  unfolding rest
  in_rest i a x ia =
      let g = graph m l in
      ⊎_elim (λ (t : on_border g a ≡ true). absurd (c.cut.disjoint 0 (suc i) (omega arith) a (on_border_lem a t) x))
      (λ (t : on_border g a ≡ false). keep_has (λ y. not (on_border g y)) a (occurring m l) ia (ap not t)) (bool_cases (on_border g a))

  -- each later part has a code whose component is a redo part of the rules
  no_more_redos : length qs ≤ length (redo_parts (graph m l))
  unfolding redo_parts graph rest
  no_more_redos =
      let e = (graph m l).edge in
      no_more_passing (either e) (either_sym e) (rest m l) qs kept (λ i j n. c.cut.disjoint (suc i) (suc j) (λ k. n (omega arith))) (is_redo (graph m l) (border m l))
      (λ i h.
      let k = part_code m l s (q ∷ qs) c.cut (suc i) (omega arith) in
      let a = k.0 in (
        a,
        k.1,
        in_rest i a k.1 k.2,
        λ p ip ia. code_redo (graph m l) (border m l) p (λ x ix. later i x (within (either e) (either_sym e) (rest m l) qs kept i p ip a x ia ix k.1)),
      ))

-- THEOREM: no loop cut of the graph has more parts
pub loop_maximal : (m : ℕ) (l : Log) → Below m l → Maximal (LoopCut (graph_of l)) (loop_parts (graph m l))
unfolding loop_parts
loop_maximal m l s [] c = omega arith
loop_maximal m l s (q ∷ qs) c = let k = no_more_redos m l s q qs c in omega arith
