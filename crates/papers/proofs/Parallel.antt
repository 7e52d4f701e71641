-- The parts of parallel, where there are any, are a cut by Definition 7 of 000, and none has more parts.
use mathlib.Core.Path.{◌≡◌, ◌∙◌, ap}
use mathlib.Core.Logic.{◌≢◌, ⊎_elim}
use mathlib.Core.List.{List, []}
use mathlib.Core.Bool.{Bool, true, false, not, ◌&&◌}
use Prim.Native.Nat.{ℕ, ◌≤◌, ◌<◌}
use native.Mathlib.Omega.{arith}
use lib.ListN.{length}
use borrow.Author.Tests.{not-true, not-false}
use Rattle.rules.specs.Words.{any, keep}
use Rattle.rules.specs.Mining.{Log, Rel, graph, occurring, not_both, parallel_parts}
use Rattle.rules.proofs.BoolLaws.{bool_cases, not_both_lem, and_both, and_cases, and_comm}
use Rattle.rules.proofs.ListLaws.{Has, any_has, has_any}
use Rattle.rules.proofs.Occurring.{Below}
use Rattle.rules.proofs.Components.{Symmetric, covered, closed}
use Rattle.rules.proofs.ParallelParts.{groups, some_parting, parallel_untorn, parallel_ends, parallel_number}
use Rattle.papers.specs.Cuts.{graph_of, Σ, StartAndEnd, ParallelCut, Nontrivial, Maximal}
use Rattle.papers.proofs.Places.{part_has, part_below}
use Rattle.papers.proofs.Graphs.{nodes, edges, starts, ends}
use Rattle.papers.proofs.Partitions.{parting_cut, only_there}
use Rattle.papers.proofs.Counting.{Kept, no_more_passing}

not_both_sym : (e : Rel) → Symmetric (not_both e)
not_both_sym e a b h = ap not (and_comm (e b a) (e a b)) ∙ h

module _ (m : ℕ) (l : Log) (s : Below m l) where
  -- ---- a cut by Definition 7 against the components

  module _ (qs : List (List ℕ)) (c : ParallelCut (graph_of l) qs) where
    -- two codes of which not both edges exist are in the same part
    kept : Kept (not_both (graph m l).edge) (occurring m l) qs
    kept i a b x ia ib h =
        let e = (graph m l).edge in
        only_there (graph_of l) qs c.cut i b ((nodes m l s b).0 ib)
        (λ j d y.
        let k : (graph_of l).edge a b × (graph_of l).edge b a = c.condition_2 i j d a b x y in
        not_both_lem (e a b && e b a) (and_both (e a b) (e b a) ((edges m l s a b).1 k.0) ((edges m l s b a).1 k.1)) (not-true (e a b && e b a) h))

    -- where each part has a code that passes a test, there are no more parts than components with such a code
    no_more_with : (t : ℕ → Bool) → ((i : ℕ) → i < length qs → (a : ℕ) × Has a (Σ qs i) × (t a ≡ true)) → length qs ≤ length (keep (any t) (groups m l))
    no_more_with t some =
        no_more_passing (not_both (graph m l).edge) (not_both_sym (graph m l).edge) (occurring m l) qs kept c.cut.disjoint (any t)
        (λ i h. let k = some i h in (k.0, k.1, (nodes m l s k.0).1 (c.cut.of_nodes i k.0 k.1), λ g _ j. any_has t k.0 g j k.2))

  -- THEOREM: no parallel cut of the graph has more parts
  pub parallel_maximal : Maximal (ParallelCut (graph_of l)) (parallel_parts (graph m l))
  unfolding graph
  parallel_maximal qs c =
      let g = graph m l in
      let starting = no_more_with qs c g.start (λ i h. let k = (c.condition_1 i h).0 in (k.0, k.1, (starts m l k.0).1 k.2)) in
      let ending = no_more_with qs c g.end (λ i h. let k = (c.condition_1 i h).1 in (k.0, k.1, (ends m l k.0).1 k.2)) in
      omega (arith, parallel_number g)

  -- THEOREM: so where the graph has a nontrivial parallel cut, parallel has two parts or more
  pub parallel_found : (qs : List (List ℕ)) → ParallelCut (graph_of l) qs → Nontrivial qs → Nontrivial (parallel_parts (graph m l))
  parallel_found qs c h = let k = parallel_maximal qs c in omega arith

  -- ---- the parts of parallel

  part_ends : (p : List ℕ) → Has p (parallel_parts (graph m l)) → StartAndEnd (graph_of l) p
  part_ends p i =
      let g = graph m l in
      let k = parallel_ends m l p i in
      let x = has_any g.start p k.0 in
      let y = has_any g.end p k.1 in
      ((x.0, x.1, (starts m l x.0).0 x.2), (y.0, y.1, (ends m l y.0).0 y.2))

  -- a part has the codes that lack an edge with one of its codes
  stays : (p : List ℕ) → Has p (parallel_parts (graph m l)) → (a b : ℕ) → Has a p → Has a (occurring m l) → Has b (occurring m l) → not_both (graph m l).edge a b ≡ true → Has b p
  stays p ip a b x ia ib h =
      let e = (graph m l).edge in
      let g = covered (not_both e) (occurring m l) a ia in
      parallel_untorn m l g.0 g.1 p ip a b g.2 (closed (not_both e) (not_both_sym e) (occurring m l) g.0 g.1 a b g.2 ib h) x

  -- THEOREM: the parts of parallel, where there are any, are a parallel cut
  pub parallel_cut : parallel_parts (graph m l) ≢ [] → ParallelCut (graph_of l) (parallel_parts (graph m l))
  parallel_cut n =
      let e = (graph m l).edge in
      let ps = parallel_parts (graph m l) in
      let c = parting_cut m l s ps (some_parting m l n) in
      let code : (i a : ℕ) → Has a (Σ ps i) → Has a (occurring m l) = λ i a x. (nodes m l s a).1 (c.of_nodes i a x) in
      record {
        cut = c;
        condition_1 = λ i h. part_ends (Σ ps i) (part_below ps i h);
        condition_2 = λ i j d a b x y.
            ⊎_elim (λ (t : not_both e a b ≡ true). absurd (c.disjoint i j d b (stays (Σ ps i) (part_has ps i a x) a b x (code i a x) (code j b y) t) y))
            (λ (t : not_both e a b ≡ false).
            let both = and_cases (e a b) (e b a) (not-false (e a b && e b a) t) in ((edges m l s a b).0 both.0, (edges m l s b a).0 both.1))
            (bool_cases (not_both e a b));
      }
