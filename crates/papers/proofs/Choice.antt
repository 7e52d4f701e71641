-- The parts of choice are a cut by Definition 5 of 000, and none has more parts.
use mathlib.Core.Path.{◌≡◌, sym}
use mathlib.Core.Logic.{⊎_elim}
use mathlib.Core.Bool.{true}
use Prim.Native.Nat.{ℕ}
use Rattle.rules.specs.Mining.{Log, graph, occurring, either, choice_parts}
use Rattle.rules.proofs.BoolLaws.{or_left, or_cases}
use Rattle.rules.proofs.ListLaws.{Has}
use Rattle.rules.proofs.Occurring.{Below}
use Rattle.rules.proofs.Components.{closed}
use Rattle.rules.proofs.GraphLaws.{edge_in}
use Rattle.rules.proofs.Cuts.{either_sym, choice_parting}
use Rattle.papers.specs.Cuts.{graph_of, Σ, ChoiceCut, Maximal}
use Rattle.papers.proofs.Places.{part_has}
use Rattle.papers.proofs.Graphs.{nodes, edges}
use Rattle.papers.proofs.Partitions.{parting_cut, part_code, only_there}
use Rattle.papers.proofs.Counting.{no_more}

module _ (m : ℕ) (l : Log) (s : Below m l) where
  -- an edge does not leave its part
  stays : (i a b : ℕ) → Has a (Σ (choice_parts (graph m l)) i) → (graph m l).edge a b ≡ true → Has b (Σ (choice_parts (graph m l)) i)
  unfolding choice_parts graph
  stays i a b x h =
      let ps = choice_parts (graph m l) in
      let e = (graph m l).edge in
      closed (either e) (either_sym e) (occurring m l) (Σ ps i) (part_has ps i a x) a b x (edge_in m l a b h).1 (or_left (e a b) (e b a) h)

  -- THEOREM: the parts of choice are an exclusive choice cut
  pub choice_cut : ChoiceCut (graph_of l) (choice_parts (graph m l))
  choice_cut =
      let ps = choice_parts (graph m l) in
      let c = parting_cut m l s ps (choice_parting m l) in
      record {
        cut = c;
        condition_1 = λ i j n a b x y h. c.disjoint i j n b (stays i a b x ((edges m l s a b).1 h)) y;
      }

  -- THEOREM: no exclusive choice cut of the graph has more parts
  pub choice_maximal : Maximal (ChoiceCut (graph_of l)) (choice_parts (graph m l))
  unfolding choice_parts graph
  choice_maximal qs c =
      let e = (graph m l).edge in
      no_more (either e) (either_sym e) (occurring m l) qs
      (λ i a b x ia ib h. only_there (graph_of l) qs c.cut i b ((nodes m l s b).0 ib)
      (λ j n y. ⊎_elim (λ ab. c.condition_1 i j n a b x y ((edges m l s a b).0 ab)) (λ ba. c.condition_1 j i (λ q. n (sym q)) b a y x ((edges m l s b a).0 ba)) (or_cases (e a b) (e b a) h)))
      c.cut.disjoint
      (part_code m l s qs c.cut)
