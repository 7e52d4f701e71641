-- The cuts of the papers, as the papers define them: 000, section 6, and for the loop 003, Definition 4.
-- Of the rules only the words for logs, lists and operators stand here. A set of nodes is a list, read by what it has.
use Rattle.std.specs.Prelude.{◌≢◌, ◌⊎◌, ◌↔◌, List, [], ◌∷◌, ◌++◌, ℕ, zero, suc, ◌≤◌, ◌<◌, length}
use Rattle.rules.specs.Trees.{Op, choice, sequence, parallel, loop}
use Rattle.rules.specs.Mining.{Episode, Log}
use Rattle.rules.proofs.ListLaws.{Has}

-- ---- directly-follows graphs

pub record FollowsGraph : Type 1 where
  pub node : ℕ → Type 0
  pub edge : ℕ → ℕ → Type 0
  pub start : ℕ → Type 0
  pub end : ℕ → Type 0

-- G(L) (000, 6.1): its nodes are the activities of L, it has the edge (a, b) exactly where L has a trace ⟨.., a, b, ..⟩, and its start and
-- end nodes are the first and the last activities of traces
abbrev pub graph_of : Log → FollowsGraph
graph_of l =
    record {
      node = λ a. (t : Episode) × Has t l × Has a t;
      edge = λ a b. (u : Episode) × (v : Episode) × Has (u ++ (a ∷ b ∷ v)) l;
      start = λ a. (v : Episode) × Has (a ∷ v) l;
      end = λ a. (u : Episode) × Has (u ++ (a ∷ [])) l;
    }

-- a ⇝ b (000, 6.2): a path, edges of G that lead from a to b
pub data EdgeChain (G : FollowsGraph) : ℕ → ℕ → Type 0 where
  one : {a b : ℕ} → G.edge a b → EdgeChain G a b
  then : {a b c : ℕ} → G.edge a b → EdgeChain G b c → EdgeChain G a c

-- ---- cuts

-- Σi of Σ1, .., Σn. Places count from 0 here: Σ1 is at place 0, Σn at place n - 1, and there is nothing at place n and beyond
abbrev pub Σ : List (List ℕ) → ℕ → List ℕ
Σ [] i = []
Σ (p ∷ ps) zero = p
Σ (p ∷ ps) (suc i) = Σ ps i

-- a cut (000, 6.2): sets Σ1, .., Σn that share out the nodes: each node is in exactly one of them, and none is empty
pub record Cut (G : FollowsGraph) (ps : List (List ℕ)) : Type 0 where
  pub of_nodes : (i a : ℕ) → Has a (Σ ps i) → G.node a
  pub all_nodes : (a : ℕ) → G.node a → (i : ℕ) × Has a (Σ ps i)
  pub disjoint : (i j : ℕ) → i ≢ j → (a : ℕ) → Has a (Σ ps i) → Has a (Σ ps j) → ⊥
  pub non_empty : (i : ℕ) → i < length ps → (a : ℕ) × Has a (Σ ps i)

-- nontrivial (000, 6.2): n > 1
abbrev pub Nontrivial : List (List ℕ) → Type 0
Nontrivial ps = 1 < length ps

-- maximal (000, 6.2), here among the cuts of one kind: none has a bigger n
abbrev pub Maximal : (List (List ℕ) → Type 0) → List (List ℕ) → Type 0
Maximal IsCut ps = (qs : List (List ℕ)) → IsCut qs → length qs ≤ length ps

pub record MaximalCut (IsCut : List (List ℕ) → Type 0) (ps : List (List ℕ)) : Type 0 where
  pub is : IsCut ps
  pub nontrivial : Nontrivial ps
  pub maximal : Maximal IsCut ps

-- there is no nontrivial cut of a kind
abbrev pub None : (List (List ℕ) → Type 0) → Type 0
None IsCut = (qs : List (List ℕ)) → IsCut qs → Nontrivial qs → ⊥

-- 000, Definition 5
pub record ChoiceCut (G : FollowsGraph) (ps : List (List ℕ)) : Type 0 where
  pub cut : Cut G ps
  -- ∀ i ≠ j ∧ ai ∈ Σi ∧ aj ∈ Σj : (ai, aj) ∉ G
  pub condition_1 : (i j : ℕ) → i ≢ j → (a b : ℕ) → Has a (Σ ps i) → Has b (Σ ps j) → G.edge a b → ⊥

-- 000, Definition 6
pub record SequenceCut (G : FollowsGraph) (ps : List (List ℕ)) : Type 0 where
  pub cut : Cut G ps
  -- ∀ 1 ≤ i < j ≤ n ∧ ai ∈ Σi ∧ aj ∈ Σj : aj ⇝ ai ∉ G
  pub condition_1 : (i j : ℕ) → i < j → (a b : ℕ) → Has a (Σ ps i) → Has b (Σ ps j) → EdgeChain G b a → ⊥
  -- ∀ 1 ≤ i < j ≤ n ∧ ai ∈ Σi ∧ aj ∈ Σj : ai ⇝ aj ∈ G
  pub condition_2 : (i j : ℕ) → i < j → (a b : ℕ) → Has a (Σ ps i) → Has b (Σ ps j) → EdgeChain G a b

-- Σi ∩ Start(G) ≠ ∅ ∧ Σi ∩ End(G) ≠ ∅
abbrev pub StartAndEnd : FollowsGraph → List ℕ → Type 0
StartAndEnd G p = ((a : ℕ) × Has a p × G.start a) × ((a : ℕ) × Has a p × G.end a)

-- 000, Definition 7
pub record ParallelCut (G : FollowsGraph) (ps : List (List ℕ)) : Type 0 where
  pub cut : Cut G ps
  -- ∀ i : Σi ∩ Start(G) ≠ ∅ ∧ Σi ∩ End(G) ≠ ∅
  pub condition_1 : (i : ℕ) → i < length ps → StartAndEnd G (Σ ps i)
  -- ∀ i ≠ j ∧ ai ∈ Σi ∧ aj ∈ Σj : (ai, aj) ∈ G ∧ (aj, ai) ∈ G
  pub condition_2 : (i j : ℕ) → i ≢ j → (a b : ℕ) → Has a (Σ ps i) → Has b (Σ ps j) → G.edge a b × G.edge b a

-- 003, Definition 4; a part Σi with i ≠ 1 is one at a place suc i
pub record LoopCut (G : FollowsGraph) (ps : List (List ℕ)) : Type 0 where
  pub cut : Cut G ps
  -- Start ∪ End ⊆ Σ1
  pub condition_1 : (a : ℕ) → G.start a ⊎ G.end a → Has a (Σ ps 0)
  -- ∀ i ≠ 1, ai ∈ Σi, a1 ∈ Σ1 : a1 ↦ ai ⇒ a1 ∈ End
  pub condition_2 : (i a b : ℕ) → Has a (Σ ps (suc i)) → Has b (Σ ps 0) → G.edge b a → G.end b
  -- ∀ i ≠ 1, ai ∈ Σi, a1 ∈ Σ1 : ai ↦ a1 ⇒ a1 ∈ Start
  pub condition_3 : (i a b : ℕ) → Has a (Σ ps (suc i)) → Has b (Σ ps 0) → G.edge a b → G.start b
  -- ∀ 1 < (i, j) ≤ n, i ≠ j, ai ∈ Σi, aj ∈ Σj : not ai ↦ aj
  pub condition_4 : (i j : ℕ) → i ≢ j → (a b : ℕ) → Has a (Σ ps (suc i)) → Has b (Σ ps (suc j)) → G.edge a b → ⊥
  -- ∀ i ≠ 1, ai ∈ Σi, a1 ∈ Start(G) : (∃ a1' ∈ Σ1 : ai ↦ a1') ⇔ ai ↦ a1
  pub condition_5 : (i a b : ℕ) → Has a (Σ ps (suc i)) → G.start b → ((c : ℕ) × Has c (Σ ps 0) × G.edge a c) ↔ G.edge a b
  -- ∀ i ≠ 1, ai ∈ Σi, a1 ∈ End(G) : (∃ a1' ∈ Σ1 : a1' ↦ ai) ⇔ a1 ↦ ai
  pub condition_6 : (i a b : ℕ) → Has a (Σ ps (suc i)) → G.end b → ((c : ℕ) × Has c (Σ ps 0) × G.edge c a) ↔ G.edge b a

-- 000, Definition 8: its conditions 1 to 4 are those above, its conditions 5 and 6 range over the whole body
pub record WholeBodyLoopCut (G : FollowsGraph) (ps : List (List ℕ)) : Type 0 where
  pub cut : Cut G ps
  pub condition_1 : (a : ℕ) → G.start a ⊎ G.end a → Has a (Σ ps 0)
  pub condition_2 : (i a b : ℕ) → Has a (Σ ps (suc i)) → Has b (Σ ps 0) → G.edge b a → G.end b
  pub condition_3 : (i a b : ℕ) → Has a (Σ ps (suc i)) → Has b (Σ ps 0) → G.edge a b → G.start b
  pub condition_4 : (i j : ℕ) → i ≢ j → (a b : ℕ) → Has a (Σ ps (suc i)) → Has b (Σ ps (suc j)) → G.edge a b → ⊥
  -- ∀ i ≠ 1 ∧ ai ∈ Σi ∧ a1 ∈ Σ1 : (∃ a1' ∈ Σ1 : (ai, a1') ∈ G) ⇔ (ai, a1) ∈ G
  pub condition_5 : (i a b : ℕ) → Has a (Σ ps (suc i)) → Has b (Σ ps 0) → ((c : ℕ) × Has c (Σ ps 0) × G.edge a c) ↔ G.edge a b
  -- ∀ i ≠ 1 ∧ ai ∈ Σi ∧ a1 ∈ Σ1 : (∃ a1' ∈ Σ1 : (a1', ai) ∈ G) ⇔ (a1, ai) ∈ G
  pub condition_6 : (i a b : ℕ) → Has a (Σ ps (suc i)) → Has b (Σ ps 0) → ((c : ℕ) × Has c (Σ ps 0) × G.edge c a) ↔ G.edge b a

-- the cuts of an operator
abbrev pub CutOf : Op → FollowsGraph → List (List ℕ) → Type 0
CutOf choice G ps = ChoiceCut G ps
CutOf sequence G ps = SequenceCut G ps
CutOf parallel G ps = ParallelCut G ps
CutOf loop G ps = LoopCut G ps

-- no nontrivial cut by any of the four definitions, one for each operator
abbrev pub NoCut : FollowsGraph → Type 0
NoCut G = (o : Op) → None (CutOf o G)
