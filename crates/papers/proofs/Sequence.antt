-- The parts of sequence are a cut by Definition 6 of 000, and none has more parts.
use mathlib.Core.Path.{◌≡◌, sym, ◌∙◌}
use mathlib.Core.Logic.{⊎_elim}
use mathlib.Core.List.{List}
use mathlib.Core.Bool.{true, false}
use Prim.Native.Nat.{ℕ, ◌<◌}
use native.Mathlib.Omega.{arith}
use lib.Dec.{ltb}
use borrow.Author.Tests.{ltb-true, ltb-false}
use Rattle.rules.specs.Mining.{Log, graph, occurring, reach, together, components, sequence_parts}
use Rattle.rules.proofs.BoolLaws.{bool_cases, not_both_lem, beq_true}
use Rattle.rules.proofs.ListLaws.{Has}
use Rattle.rules.proofs.Occurring.{Below}
use Rattle.rules.proofs.Order.{length_ordered, together_sym, sequence_order}
use Rattle.rules.proofs.Cuts.{sequence_parting}
use Rattle.papers.specs.Cuts.{graph_of, Σ, SequenceCut, Maximal}
use Rattle.papers.proofs.Places.{order_at}
use Rattle.papers.proofs.Graphs.{nodes, reaches}
use Rattle.papers.proofs.Partitions.{parting_cut, part_code, only_there}
use Rattle.papers.proofs.Counting.{no_more}

module _ (m : ℕ) (l : Log) (s : Below m l) where
  -- THEOREM: the parts of sequence are a sequence cut
  pub sequence_cut : SequenceCut (graph_of l) (sequence_parts (graph m l))
  sequence_cut =
      let r = reach (graph m l) in
      let ps = sequence_parts (graph m l) in
      let at = order_at r ps (sequence_order m l) in
      record {
        cut = parting_cut m l s ps (sequence_parting m l);
        condition_1 = λ i j h a b x y k. not_both_lem (r b a) ((reaches m l s b a).1 k) (at i j h a b x y).1;
        condition_2 = λ i j h a b x y. (reaches m l s a b).0 (at i j h a b x y).0;
      }

  -- codes of two parts of a sequence cut do not belong together
  earlier : (qs : List (List ℕ)) → SequenceCut (graph_of l) qs → (i j : ℕ) → i < j → (a b : ℕ) → Has a (Σ qs i) → Has b (Σ qs j) → reach (graph m l) a b ≡ reach (graph m l) b a → ⊥
  earlier qs c i j h a b x y e =
      c.condition_1 i j h a b x y ((reaches m l s b a).0 (sym e ∙ (reaches m l s a b).1 (c.condition_2 i j h a b x y)))

  -- THEOREM: no sequence cut of the graph has more parts
  pub sequence_maximal : Maximal (SequenceCut (graph_of l)) (sequence_parts (graph m l))
  unfolding sequence_parts graph
  sequence_maximal qs c =
      let r = reach (graph m l) in
      let gs = components (together r) (occurring m l) in
      let e = length_ordered r gs in
      let k = no_more (together r) (together_sym r) (occurring m l) qs
      (λ i a b x ia ib h. only_there (graph_of l) qs c.cut i b ((nodes m l s b).0 ib)
      (λ j n y. let q = beq_true (r a b) (r b a) h in
      ⊎_elim (λ (t : ltb i j ≡ true). earlier qs c i j (ltb-true i j t) a b x y q)
      (λ (t : ltb i j ≡ false). let le = ltb-false i j t in earlier qs c j i (omega arith) b a y x (sym q)) (bool_cases (ltb i j))))
      c.cut.disjoint
      (part_code m l s qs c.cut) in
      omega arith
