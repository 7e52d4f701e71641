-- A cut that is taken is a maximal cut of the papers, at every node of a mined tree.
use mathlib.Core.Path.{◌≡◌, refl, sym, subst}
use mathlib.Core.Logic.{inl}
use mathlib.Core.List.{List, [], ◌∷◌}
use Prim.Native.Nat.{ℕ}
use Rattle.rules.specs.Trees.{Op, choice, sequence, parallel, loop}
use Rattle.rules.specs.Mining.{Episode, Log, graph, shape, cut, parts_of, loop_parts, body_part}
use Rattle.rules.proofs.ListLaws.{Has, flat_has}
use Rattle.rules.proofs.Occurring.{Below, code_of}
use Rattle.rules.proofs.Cuts.{Two}
use Rattle.rules.proofs.Shapes.{Taken, cut_taken, two_length}
use Rattle.rules.proofs.Nodes.{Sublog, sublog_below}
use Rattle.papers.specs.Cuts.{graph_of, CutOf, ChoiceCut, SequenceCut, ParallelCut, LoopCut, Maximal, MaximalCut}
use Rattle.papers.proofs.Choice.{choice_cut, choice_maximal}
use Rattle.papers.proofs.Sequence.{sequence_cut, sequence_maximal}
use Rattle.papers.proofs.Parallel.{parallel_cut, parallel_maximal}
use Rattle.papers.proofs.Loop.{loop_cut}
use Rattle.papers.proofs.LoopMaximal.{loop_maximal}

-- an episode with a code has a first one
start_of : (l : Log) (t : Episode) → Has t l → (c : ℕ) → Has c t → (x : ℕ) × (graph_of l).start x
start_of l [] i c j = absurd j
start_of l (x ∷ t) i c j = (x, (t, i))

-- a log of which a loop is taken has a start
loop_start : (m : ℕ) (l : Log) → Taken m l loop → (x : ℕ) × (graph_of l).start x
unfolding loop_parts
loop_start m l k =
    let body = body_part (graph m l) in
    let c = k.parting.some body (inl refl) in
    let t = code_of m l c.0 (k.parting.inside c.0 (flat_has c.0 body (loop_parts (graph m l)) (inl refl) c.1)) in
    start_of l t.0 t.1 c.0 t.2

parts_cut : (m : ℕ) (l : Log) → Below m l → (o : Op) → Taken m l o → CutOf o (graph_of l) (parts_of o (graph m l))
parts_cut m l s choice k = choice_cut m l s
parts_cut m l s sequence k = sequence_cut m l s
parts_cut m l s parallel k = parallel_cut m l s (λ e. subst Two e k.two)
parts_cut m l s loop k = let x = loop_start m l k in loop_cut m l s x.0 x.1

-- THEOREM: no cut of an operator has more parts than the rules find, also where its parts are not taken
pub parts_maximal : (m : ℕ) (l : Log) → Below m l → (o : Op) → Maximal (CutOf o (graph_of l)) (parts_of o (graph m l))
parts_maximal m l s choice = choice_maximal m l s
parts_maximal m l s sequence = sequence_maximal m l s
parts_maximal m l s parallel = parallel_maximal m l s
parts_maximal m l s loop = loop_maximal m l s

-- THEOREM: a cut that is taken is a nontrivial and maximal cut of its operator
pub taken : (m : ℕ) (l : Log) → Below m l → (o : Op) (ps : List (List ℕ)) → shape m l ≡ cut o ps → MaximalCut (CutOf o (graph_of l)) ps
taken m l s o ps e =
    let k = cut_taken m l s o ps e in
    subst (MaximalCut (CutOf o (graph_of l))) (sym k.0)
    (record { is = parts_cut m l s o k.1; nontrivial = two_length (parts_of o (graph m l)) k.1.two; maximal = parts_maximal m l s o })

module _ (m : ℕ) (l : Log) (s : Below m l) (ps : List (List ℕ)) where
  -- THEOREM: a choice that is taken is a maximal exclusive choice cut
  pub choice_taken : shape m l ≡ cut choice ps → MaximalCut (ChoiceCut (graph_of l)) ps
  choice_taken = taken m l s choice ps

  -- THEOREM: a sequence that is taken is a maximal sequence cut
  pub sequence_taken : shape m l ≡ cut sequence ps → MaximalCut (SequenceCut (graph_of l)) ps
  sequence_taken = taken m l s sequence ps

  -- THEOREM: a parallel that is taken is a maximal parallel cut
  pub parallel_taken : shape m l ≡ cut parallel ps → MaximalCut (ParallelCut (graph_of l)) ps
  parallel_taken = taken m l s parallel ps

  -- THEOREM: a loop that is taken is a maximal loop cut
  pub loop_taken : shape m l ≡ cut loop ps → MaximalCut (LoopCut (graph_of l)) ps
  loop_taken = taken m l s loop ps

-- THEOREM: so it is at every node of a mined tree: for each sublog that is cut, of the graph of that sublog
pub node_taken : (m : ℕ) (w : Log) → Below m w → {l : Log} → Sublog m w l → (o : Op) (ps : List (List ℕ)) → shape m l ≡ cut o ps → MaximalCut (CutOf o (graph_of l)) ps
node_taken m w s {l} z = taken m l (sublog_below m w s z)
