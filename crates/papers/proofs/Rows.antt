-- Rows M5, M6, M7 and M9 of the bench sheet and the log of request 2026-02, told by the papers, and two partitions that they refuse.
use mathlib.Core.Path.{◌≡◌, refl}
use mathlib.Core.Logic.{inl, ⊎_elim}
use mathlib.Core.List.{List, [], ◌∷◌}
use mathlib.Core.Bool.{true, false≢true}
use Prim.Native.Nat.{ℕ}
use native.Mathlib.Omega.{arith}
use lib.Dec.{ltb}
use borrow.Author.Tests.{ltb-true}
use Rattle.rules.specs.Words.{all}
use Rattle.rules.specs.Mining.{Log, shape, shape_of, cut_or, or_else, loop_parts, body_part, redo_parts, is_redo, parallel_parts, made_parts, sequence_parts, choice_parts, components, join, through, reach, graph, tabled, table_of, occurring}
use Rattle.rules.specs.Calls.{code_count}
use Rattle.rules.proofs.ListLaws.{all_has}
use Rattle.rules.proofs.Occurring.{Below}
use Rattle.papers.specs.Cuts.{graph_of, ChoiceCut, SequenceCut, ParallelCut, LoopCut, MaximalCut}
use Rattle.papers.proofs.Graphs.{reaches}
use Rattle.papers.proofs.Taken.{choice_taken, sequence_taken, parallel_taken, loop_taken}

-- the codes of a log that is written out are below m
pub below_of : (m : ℕ) (l : Log) → all (all (λ c. ltb c m)) l ≡ true → Below m l
below_of m l h t i c j = ltb-true c m (all_has (λ x. ltb x m) c t (all_has (all (λ x. ltb x m)) t l h i) j)

-- the parts {a} and {b}
abbrev apart : List (List ℕ)
apart = (0 ∷ []) ∷ (1 ∷ []) ∷ []

-- the parts {a} and {b, c}
abbrev joined : List (List ℕ)
joined = (0 ∷ []) ∷ (1 ∷ 2 ∷ []) ∷ []

abbrev m5 : Log
m5 = (0 ∷ 1 ∷ []) ∷ []

abbrev m6 : Log
m6 = (0 ∷ []) ∷ (1 ∷ []) ∷ []

abbrev m7 : Log
m7 = (0 ∷ 1 ∷ []) ∷ (1 ∷ 0 ∷ []) ∷ []

abbrev m9 : Log
m9 = (0 ∷ []) ∷ (0 ∷ 1 ∷ 0 ∷ []) ∷ []

-- the log of request 2026-02
abbrev mixed : Log
mixed = (1 ∷ 2 ∷ 1 ∷ 0 ∷ 2 ∷ []) ∷ (0 ∷ 1 ∷ 2 ∷ 0 ∷ []) ∷ []

-- THEOREM: {a}, {b} is a maximal sequence cut of ab
pub row_m5 : MaximalCut (SequenceCut (graph_of m5)) apart
unfolding shape shape_of cut_or or_else loop_parts body_part redo_parts is_redo parallel_parts made_parts sequence_parts choice_parts components join through reach graph tabled table_of occurring
row_m5 = sequence_taken code_count m5 (below_of code_count m5 refl) apart refl

-- THEOREM: {a}, {b} is a maximal exclusive choice cut of a, b
pub row_m6 : MaximalCut (ChoiceCut (graph_of m6)) apart
unfolding shape shape_of cut_or or_else loop_parts body_part redo_parts is_redo parallel_parts made_parts sequence_parts choice_parts components join through reach graph tabled table_of occurring
row_m6 = choice_taken code_count m6 (below_of code_count m6 refl) apart refl

-- THEOREM: {a}, {b} is a maximal parallel cut of ab, ba
pub row_m7 : MaximalCut (ParallelCut (graph_of m7)) apart
unfolding shape shape_of cut_or or_else loop_parts body_part redo_parts is_redo parallel_parts made_parts sequence_parts choice_parts components join through reach graph tabled table_of occurring
row_m7 = parallel_taken code_count m7 (below_of code_count m7 refl) apart refl

-- THEOREM: {a}, {b, c} is a maximal parallel cut of bcbac, abca
pub row_mixed : MaximalCut (ParallelCut (graph_of mixed)) joined
unfolding shape shape_of cut_or or_else loop_parts body_part redo_parts is_redo parallel_parts made_parts sequence_parts choice_parts components join through reach graph tabled table_of occurring
row_mixed = parallel_taken code_count mixed (below_of code_count mixed refl) joined refl

-- THEOREM: {a}, {b} is a maximal loop cut of a, aba
pub row_m9 : MaximalCut (LoopCut (graph_of m9)) apart
unfolding shape shape_of cut_or or_else loop_parts body_part redo_parts is_redo parallel_parts made_parts sequence_parts choice_parts components join through reach graph tabled table_of occurring
row_m9 = loop_taken code_count m9 (below_of code_count m9 refl) apart refl

-- THEOREM: {b}, {a} is no sequence cut of ab
pub order_counts : SequenceCut (graph_of m5) ((1 ∷ []) ∷ (0 ∷ []) ∷ []) → ⊥
unfolding through reach graph tabled table_of occurring
order_counts c = false≢true ((reaches code_count m5 (below_of code_count m5 refl) 1 0).1 (c.condition_2 0 1 (omega arith) 1 0 (inl refl) (inl refl)))

-- THEOREM: {b}, {a} is no loop cut of a, aba: the body has the start
pub body_counts : LoopCut (graph_of m9) ((1 ∷ []) ∷ (0 ∷ []) ∷ []) → ⊥
body_counts c = ⊎_elim (λ (e : 0 ≡ 1). omega arith) (λ n. n) (c.condition_1 0 (inl ([], inl refl)))
