-- A node's rows by its kind and its operator.
use Prim.Native.Nat.{ℕ, ◌+◌}
use native.Mathlib.Omega.{arith}
use mathlib.Core.List.{List, [], ◌∷◌}
use mathlib.Core.Path.{◌≡◌, refl, sym, ap, ◌∙◌, subst}
use mathlib.Core.Bool.{Bool, true, false}
use lib.Dec.{eqb}
use denote.Enum.Bare.{sameb}
use Rattle.rules.specs.Words.{mem, Has}
use Rattle.rules.specs.Trees.{Op, choice, sequence, parallel, loop, silent, leaf, node, Forest, none, more, sizes, labels_all, In, InOne, InRow, InLoop}
use Rattle.rules.specs.WellFormed.{WellFormed}
use Rattle.rules.specs.TreeBlock.{operator_of, op_of, kind_at, argument_at, size_at}
use Rattle.rules.specs.Holds.{Holds}
use Rattle.rules.specs.Calls.{code_count}
use Rattle.rules.specs.declared.Operator.{Operator}
use Rattle.rules.specs.declared.Operator.TheVariants.{Choice, Sequence, Parallel, Loop}
use Rattle.rules.specs.contracts.Operator.{the_type}
use Rattle.rules.proofs.BoolLaws.{or_off}
use Rattle.rules.proofs.Entries.{operator_kind, kind_low}
use Rattle.rules.proofs.ListLaws.{has_mem}
use Rattle.judge_rows.specs.Rows.{between, clear, single}
use Rattle.judge_meanings.specs.Means.{Lang, Means}
use Rattle.judge_meanings.proofs.MeansLaws.{means_rows, means_set, silent_means, leaf_means}
use Rattle.judge_subtrees.specs.Entries.{labelled}
use Rattle.judge_nodes.specs.Children.{against, Ready, ListMeans, LoopMeans}
use Rattle.judge_nodes.specs.Nodes.{NodeMeans}
use Rattle.judge_subtrees.proofs.LabelLaws.{labelled_codes}
use Rattle.judge_subtrees.proofs.EntryLaws.{children_formed}

-- the test for a loop
is_loop : (p : Operator) → sameb the_type p Loop ≡ true → p ≡ Loop
is_loop Choice h = cc
is_loop Sequence h = cc
is_loop Parallel h = cc
is_loop Loop h = refl

module _ (b e : List ℕ) (v : ℕ) (R : ℕ → ℕ → Bool) where
  pub silent_node : (S : ℕ → Bool) → kind_at b v ≡ 1 → ((c : ℕ) → S c ≡ false) → ((i j : ℕ) → R i j ≡ between (clear S) e i j) → NodeMeans b e v R
  unfolding NodeMeans
  silent_node S k empty h silent held w = means_set S (λ c. mem c []) (λ w. w ≡ []) e R empty (means_rows S (λ w. w ≡ []) e (between (clear S) e) R h (silent_means S e))
  silent_node S k empty h (leaf a) held w = absurd (omega (arith, held.kind, k))
  silent_node S k empty h (node o f) held w = absurd (omega (arith, held.0.kind, k, kind_low o))

  pub leaf_node : kind_at b v ≡ 2 → ((i j : ℕ) → R i j ≡ between (single (argument_at b v)) e i j) → NodeMeans b e v R
  unfolding NodeMeans
  leaf_node k h silent held w = absurd (omega (arith, held.kind, k))
  leaf_node k h (leaf a) held w =
      means_set (λ c. eqb c a) (λ c. mem c (a ∷ [])) (λ w. w ≡ a ∷ []) e R (λ c. sym (or_off (eqb c a)))
      (means_rows (λ c. eqb c a) (λ w. w ≡ a ∷ []) e (between (single a) e) R (λ i j. h i j ∙ ap (λ (x : ℕ). between (single x) e i j) held.argument) (leaf_means a e))
  leaf_node k h (node o f) held w = absurd (omega (arith, held.0.kind, k, kind_low o))

  module _ (work : List ℕ) (n : ℕ) (len : n ≡ size_at b v) (ready : Ready b e work (v + 1) (v + size_at b v)) (S : ℕ → Bool)
      (no1 : kind_at b v ≡ 1 → ⊥) (no2 : kind_at b v ≡ 2 → ⊥) where
    below : Ready b e work (v + 1) (v + n)
    below = subst (λ (m : ℕ). Ready b e work (v + 1) (v + m)) (sym len) ready

    -- rows of a node o
    abbrev Rows : Op → Type 0
    Rows o = (f : Forest) → Holds (node o f) b v → WellFormed code_count (node o f) → Means (λ c. mem c (labels_all f)) (λ x. In (node o f) x) e R

    -- the entry has one operator
    of_operator : (o : Op) → o ≡ operator_of (kind_at b v) → Rows o → NodeMeans b e v R
    unfolding NodeMeans
    of_operator o is m silent held w = absurd (no1 held.kind)
    of_operator o is m (leaf a) held w = absurd (no2 held.kind)
    of_operator o is m (node p f) held w = subst Rows (is ∙ ap operator_of held.0.kind ∙ operator_kind p) m f held w

    module _ (o : Op) (f : Forest) (held : Holds (node o f) b v) (w : WellFormed code_count (node o f)) where
      ends : v + 1 + sizes f ≡ v + n
      ends = let q = len ∙ held.0.size in omega arith

      -- its children are read against the codes of all its leaves
      whole : (L : Lang) → ((c : ℕ) → S c ≡ labelled b v n c) → (((c : ℕ) → Has c (labels_all f) → S c ≡ true) → Means S L e R) → Means (λ c. mem c (labels_all f)) L e R
      whole L hS m =
          let q : (c : ℕ) → S c ≡ mem c (labels_all f) =
          λ c. hS c ∙ ap (λ (k : ℕ). labelled b v k c) (len ∙ held.0.size) ∙ labelled_codes (node o f) b v c held w.coded in
          means_set S (λ c. mem c (labels_all f)) L e R q (m (λ c h. q c ∙ has_mem c (labels_all f) h))

    -- any operator but a loop
    pub list_node : (p : Operator) → sameb the_type p Loop ≡ false → op_of p ≡ operator_of (kind_at b v) → ((c : ℕ) → S c ≡ against (op_of p) (labelled b v n) c)
        → ListMeans b e work (op_of p) S (v + 1) (v + n) R → NodeMeans b e v R
    unfolding ListMeans
    list_node Choice k is hS m = of_operator choice is (λ f held w. whole choice f held w (λ x. InOne f x) hS (λ s. m f held.1 (ends choice f held w) (children_formed code_count choice f w) s below))
    list_node Sequence k is hS m = of_operator sequence is (λ f held w. whole sequence f held w (λ x. InRow f x) hS (λ s. m f held.1 (ends sequence f held w) (children_formed code_count sequence f w) s below))
    list_node Parallel k is hS m = of_operator parallel is (λ f held w. m f held.1 (ends parallel f held w) (children_formed code_count parallel f w) hS below)
    list_node Loop k is hS m = cc

    pub loop_node : (p : Operator) → sameb the_type p Loop ≡ true → op_of p ≡ operator_of (kind_at b v) → ((c : ℕ) → S c ≡ against (op_of p) (labelled b v n) c)
        → LoopMeans b e work S (v + 1) (v + n) R → NodeMeans b e v R
    unfolding LoopMeans
    loop_node p told is hS m = of_operator loop (sym (ap op_of (is_loop p told)) ∙ is) go
      where
        go : Rows loop
        go none held w = absurd w.wide.0
        go (more t f) held w =
            whole loop (more t f) held w (λ x. InLoop (more t f) x) (λ c. hS c ∙ ap (λ (q : Operator). against (op_of q) (labelled b v n) c) (is_loop p told))
            (λ s. m t f held.1 (ends loop (more t f) held w) (children_formed code_count loop (more t f) w) s below)
