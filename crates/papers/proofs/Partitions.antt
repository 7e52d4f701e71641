-- Parts that share out the codes are a cut of the papers, and a node stands in one part of a cut only.
use mathlib.Core.Path.{sym, subst}
use mathlib.Core.Logic.{◌≢◌}
use mathlib.Core.List.{List}
use Prim.Native.Nat.{ℕ, ◌<◌}
use lib.ListN.{length}
use Rattle.rules.specs.Mining.{Log, occurring}
use Rattle.rules.proofs.ListLaws.{Has}
use Rattle.rules.proofs.Occurring.{Below}
use Rattle.rules.proofs.Cuts.{Parting}
use Rattle.papers.specs.Cuts.{FollowsGraph, graph_of, Σ, Cut}
use Rattle.papers.proofs.Places.{part_below, part_flat, flat_part, apart_at, same_place}
use Rattle.papers.proofs.Graphs.{nodes}

-- THEOREM: parts that share out the codes of a log are a partition of the nodes of its graph
pub parting_cut : (m : ℕ) (l : Log) → Below m l → (ps : List (List ℕ)) → Parting (occurring m l) ps → Cut (graph_of l) ps
parting_cut m l s ps k =
    record {
      of_nodes = λ i a h. (nodes m l s a).0 (k.inside a (part_flat ps i a h));
      all_nodes = λ a h. flat_part ps a (k.covers a ((nodes m l s a).1 h));
      disjoint = apart_at ps k.apart;
      non_empty = λ i h. k.some (Σ ps i) (part_below ps i h);
    }

-- each part of a cut has a code of the log
pub part_code : (m : ℕ) (l : Log) → Below m l → (qs : List (List ℕ)) → Cut (graph_of l) qs → (i : ℕ) → i < length qs → (a : ℕ) × Has a (Σ qs i) × Has a (occurring m l)
part_code m l s qs c i h = let k = c.non_empty i h in (k.0, k.1, (nodes m l s k.0).1 (c.of_nodes i k.0 k.1))

-- a node that can be in no other part is in this one
pub only_there : (G : FollowsGraph) (ps : List (List ℕ)) → Cut G ps → (i a : ℕ) → G.node a → ((j : ℕ) → i ≢ j → Has a (Σ ps j) → ⊥) → Has a (Σ ps i)
only_there G ps c i a n f =
    let k = c.all_nodes a n in
    subst (λ (j : ℕ). Has a (Σ ps j)) (sym (same_place i k.0 (λ d. f k.0 d k.1))) k.1
