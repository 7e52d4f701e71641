-- The loop cuts of 000 beside those of 003: each is one by 003 too, so none has more parts than ours; ours need not be one by 000.
use mathlib.Core.Path.{refl}
use mathlib.Core.Logic.{inl, inr}
use mathlib.Core.List.{List, [], ◌∷◌}
use mathlib.Core.Bool.{false≢true}
use Prim.Native.Nat.{ℕ}
use Rattle.rules.specs.Mining.{Log, loop_parts, body_part, redo_parts, is_redo, components, join, graph, tabled, table_of, occurring}
use Rattle.rules.specs.Calls.{code_count}
use Rattle.rules.proofs.Occurring.{Below}
use Rattle.papers.specs.Cuts.{FollowsGraph, graph_of, LoopCut, WholeBodyLoopCut, Maximal}
use Rattle.papers.proofs.Graphs.{edges}
use Rattle.papers.proofs.LoopMaximal.{loop_maximal}
use Rattle.papers.proofs.Rows.{below_of}

-- THEOREM: a loop cut by Definition 8 of 000 is one by Definition 4 of 003
pub whole_body_loop : (G : FollowsGraph) (ps : List (List ℕ)) → WholeBodyLoopCut G ps → LoopCut G ps
whole_body_loop G ps c =
    record {
      cut = c.cut;
      condition_1 = c.condition_1;
      condition_2 = c.condition_2;
      condition_3 = c.condition_3;
      condition_4 = c.condition_4;
      condition_5 = λ i a b x h. c.condition_5 i a b x (c.condition_1 b (inl h));
      condition_6 = λ i a b x h. c.condition_6 i a b x (c.condition_1 b (inr h));
    }

-- THEOREM: so no loop cut by Definition 8 of the graph has more parts than loop
pub whole_body_maximal : (m : ℕ) (l : Log) → Below m l → Maximal (WholeBodyLoopCut (graph_of l)) (loop_parts (graph m l))
whole_body_maximal m l s qs c = loop_maximal m l s qs (whole_body_loop (graph_of l) qs c)

-- the log of row M11: ab, abcab
abbrev m11 : Log
m11 = (0 ∷ 1 ∷ []) ∷ (0 ∷ 1 ∷ 2 ∷ 0 ∷ 1 ∷ []) ∷ []

-- THEOREM: the loop of row M11 is no cut by Definition 8: its redo c leads to a of the body and not to b
pub not_whole_body : WholeBodyLoopCut (graph_of m11) (loop_parts (graph code_count m11)) → ⊥
unfolding loop_parts body_part redo_parts is_redo components join graph tabled table_of occurring
not_whole_body c =
    let s = below_of code_count m11 refl in
    let ca = (edges code_count m11 s 2 0).0 refl in
    let cb = (c.condition_5 0 2 1 (inl refl) (inr (inl refl))).0 (0, inl refl, ca) in
    false≢true ((edges code_count m11 s 2 1).1 cb)
