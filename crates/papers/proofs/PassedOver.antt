-- What is passed over: where another cut is taken, or a flower, the papers have no nontrivial cut of the kinds tried before.
use mathlib.Core.Path.{◌≡◌, ◌∙◌, ap}
use mathlib.Core.Logic.{⊎_elim}
use mathlib.Core.List.{List, [], ◌∷◌}
use Prim.Native.Nat.{ℕ}
use native.Mathlib.Omega.{arith}
use Rattle.rules.specs.Trees.{Op, choice, sequence, parallel, loop}
use Rattle.rules.specs.Mining.{Log, graph, parts_of, shape, flower, cut}
use Rattle.rules.proofs.ListLaws.{Has}
use Rattle.rules.proofs.Occurring.{Below}
use Rattle.rules.proofs.Cuts.{Two}
use Rattle.rules.proofs.Shapes.{Few, cut_taken}
use Rattle.rules.proofs.Flowers.{flower_where, flower_codes}
use Rattle.rules.proofs.Nodes.{Sublog, sublog_below}
use Rattle.papers.specs.Cuts.{graph_of, CutOf, ChoiceCut, SequenceCut, ParallelCut, Maximal, None, NoCut}
use Rattle.papers.proofs.Taken.{parts_maximal}

-- no two parts of ours, so none of a cut with at most as many
none_above : (IsCut : List (List ℕ) → Type 0) (ps : List (List ℕ)) → Maximal IsCut ps → (Two ps → ⊥) → None IsCut
none_above IsCut [] most n qs c h = let k = most qs c in omega arith
none_above IsCut (p ∷ []) most n qs c h = let k = most qs c in omega arith
none_above IsCut (p ∷ q ∷ ps) most n qs c h = n tt

module _ (m : ℕ) (l : Log) (s : Below m l) where
  -- so where ours has no two parts, the papers have no nontrivial cut of the operator
  none : (o : Op) → Few m l o → None (CutOf o (graph_of l))
  none o = none_above (CutOf o (graph_of l)) (parts_of o (graph m l)) (parts_maximal m l s o)

  -- THEOREM: where a sequence is taken, the graph has no nontrivial exclusive choice cut
  pub before_sequence : (ps : List (List ℕ)) → shape m l ≡ cut sequence ps → None (ChoiceCut (graph_of l))
  before_sequence ps e = none choice (cut_taken m l s sequence ps e).1.first

  -- THEOREM: where a parallel is taken, the graph has no nontrivial exclusive choice cut and no nontrivial sequence cut
  pub before_parallel : (ps : List (List ℕ)) → shape m l ≡ cut parallel ps → None (ChoiceCut (graph_of l)) × None (SequenceCut (graph_of l))
  before_parallel ps e = let few = (cut_taken m l s parallel ps e).1.first in (none choice few.0, none sequence few.1)

  -- THEOREM: where a loop is taken, neither, and no nontrivial parallel cut
  pub before_loop : (ps : List (List ℕ)) → shape m l ≡ cut loop ps → None (ChoiceCut (graph_of l)) × None (SequenceCut (graph_of l)) × None (ParallelCut (graph_of l))
  before_loop ps e = let few = (cut_taken m l s loop ps e).1.first in (none choice few.0, none sequence few.1, none parallel few.2)

  -- THEOREM: where a flower is made of a log without the empty episode, the graph has no nontrivial cut by any of the four definitions
  pub before_flower : (Has [] l → ⊥) → (cs : List ℕ) → shape m l ≡ flower cs → NoCut (graph_of l)
  before_flower n cs e o =
      ⊎_elim (λ beside. absurd (n beside.0)) (λ few. none o (few o)) ((flower_where m l s).0 (e ∙ ap flower (flower_codes m l s cs e))).cause

-- THEOREM: so it is at every node of a mined tree: for each sublog without the empty episode of which a flower is made, of the graph of that sublog
pub node_flower : (m : ℕ) (w : Log) → Below m w → {l : Log} → Sublog m w l → (Has [] l → ⊥) → (cs : List ℕ) → shape m l ≡ flower cs → NoCut (graph_of l)
node_flower m w s {l} z = before_flower m l (sublog_below m w s z)
