-- One leaf a code: every code that occurs labels exactly one leaf of the mined tree, and no other code labels any.
use mathlib.Core.Path.{◌≡◌, refl, sym, ap, subst}
use mathlib.Core.Logic.{⊎_elim}
use mathlib.Core.List.{List, [], ◌∷◌}
use Prim.Native.Nat.{ℕ, zero, suc}
use Rattle.rules.specs.Words.{flat}
use Rattle.rules.specs.Trees.{Tree, labels, labels_all}
use Rattle.rules.specs.Mining.{Log, occurring, graph, parts_of, shape, split, leaves, flower_of, grow, build, mine, mined}
use Rattle.rules.proofs.ListLaws.{Has, has_append_left, has_append_right, has_append_cases}
use Rattle.rules.proofs.Distinct.{Distinct, distinct_append, Apart, count_of, count_none, count_one}
use Rattle.rules.proofs.Occurring.{Below, code_of, occurring_distinct}
use Rattle.rules.proofs.Splits.{split_below, split_codes}
use Rattle.rules.proofs.Shapes.{shape_cases}
use Rattle.rules.proofs.Languages.{in_labels}
use Rattle.rules.proofs.Fitness.{mined_fits}

pub leaves_labels : (cs : List ℕ) → labels_all (leaves cs) ≡ cs
leaves_labels [] = refl
leaves_labels (c ∷ cs) = ap (◌∷◌ c) (leaves_labels cs)

grow_in : (f : List ℕ → Tree) (ps : List (List ℕ)) → ((p : List ℕ) (c : ℕ) → Has c (labels (f p)) → Has c p) → (c : ℕ) → Has c (labels_all (grow f ps)) → Has c (flat ps)
grow_in f [] h c i = i
grow_in f (p ∷ ps) h c i =
    ⊎_elim (λ k. has_append_left c p (flat ps) (h p c k)) (λ k. has_append_right c p (flat ps) (grow_in f ps h c k))
    (has_append_cases c (labels (f p)) (labels_all (grow f ps)) i)

grow_distinct : (f : List ℕ → Tree) (ps : List (List ℕ)) → Apart ps → ((p : List ℕ) (c : ℕ) → Has c (labels (f p)) → Has c p) →
    ((p : List ℕ) → Distinct (labels (f p))) → Distinct (labels_all (grow f ps))
grow_distinct f [] a h d = tt
grow_distinct f (p ∷ ps) a h d =
    distinct_append (labels (f p)) (labels_all (grow f ps)) (d p) (grow_distinct f ps a.1 h d) (λ c i j. a.0 c (h p c i) (grow_in f ps h c j))

-- the labels are some of the codes, none twice
record Labelled (cs : List ℕ) (t : Tree) : Type 0 where
  inside : (c : ℕ) → Has c (labels t) → Has c cs
  distinct : Distinct (labels t)

flower_labelled : (cs : List ℕ) → Distinct cs → Labelled cs (flower_of cs)
flower_labelled cs d = record { inside = λ c i. subst (Has c) (leaves_labels cs) i; distinct = subst Distinct (sym (leaves_labels cs)) d }

module _ (m : ℕ) where
  build_labelled : (sub : Log → Tree) (l : Log) → Below m l → ((k : Log) → Below m k → Labelled (occurring m k) (sub k)) → Labelled (occurring m l) (build sub l (shape m l))
  unfolding build
  build_labelled sub l s below =
      shape_cases m l s (λ z. Labelled (occurring m l) (build sub l z))
      (λ _. record { inside = λ c i. absurd i; distinct = tt })
      (λ a i _. record { inside = λ c j. ⊎_elim (λ e. rw e i) (λ k. absurd k) j; distinct = ((λ j. j), tt) })
      (λ c i _. flower_labelled (occurring m l) (occurring_distinct m l))
      (λ o k.
      let f : List ℕ → Tree = λ p. sub (split o p l) in
      let part : (p : List ℕ) (c : ℕ) → Has c (labels (f p)) → Has c p =
      λ p c i. let q = code_of m (split o p l) c ((below (split o p l) (split_below m o p l s)).inside c i) in (split_codes o p l q.0 q.1 c q.2).1 in
      record {
        inside = λ c i. k.parting.inside c (grow_in f (parts_of o (graph m l)) part c i);
        distinct = grow_distinct f (parts_of o (graph m l)) k.parting.apart part (λ p. (below (split o p l) (split_below m o p l s)).distinct);
      })

  mine_labelled : (n : ℕ) (l : Log) → Below m l → Labelled (occurring m l) (mine m n l)
  unfolding mine
  mine_labelled zero l s = flower_labelled (occurring m l) (occurring_distinct m l)
  mine_labelled (suc n) l s = build_labelled (mine m n) l s (mine_labelled n)

  -- THEOREM: no code labels two leaves
  pub labels_distinct : (l : Log) → Below m l → Distinct (labels (mined m l))
  unfolding mined
  labels_distinct l s = (mine_labelled (suc m) l s).distinct

  -- THEOREM: the codes on the leaves are codes that occur
  pub label_occurs : (l : Log) → Below m l → (c : ℕ) → Has c (labels (mined m l)) → Has c (occurring m l)
  unfolding mined
  label_occurs l s c i = (mine_labelled (suc m) l s).inside c i

  -- THEOREM: each code that occurs labels a leaf
  pub occurs_label : (l : Log) → Below m l → (c : ℕ) → Has c (occurring m l) → Has c (labels (mined m l))
  occurs_label l s c i = let k = code_of m l c i in in_labels (mined m l) k.0 (mined_fits m l s k.0 k.1) c k.2

  -- THEOREM: each code that occurs labels exactly one leaf
  pub one_leaf : (l : Log) → Below m l → (c : ℕ) → Has c (occurring m l) → count_of c (labels (mined m l)) ≡ 1
  one_leaf l s c i = count_one c (labels (mined m l)) (labels_distinct l s) (occurs_label l s c i)

  -- THEOREM: no other code labels any
  pub no_leaf : (l : Log) → Below m l → (c : ℕ) → (Has c (occurring m l) → ⊥) → count_of c (labels (mined m l)) ≡ 0
  no_leaf l s c n = count_none c (labels (mined m l)) (λ i. n (label_occurs l s c i))
