-- The shape of a tight view's sublog, read off the view and its graph. m is the number of codes.
use mathlib.Core.Path.{◌≡◌, refl, sym, ◌∙◌, ap, subst}
use mathlib.Core.Logic.{inl, inr, ⊎_elim}
use mathlib.Core.List.{List, [], ◌∷◌}
use mathlib.Core.Bool.{Bool, true, false, not, ◌&&◌, ◌||◌, true≢false, false≢true}
use Prim.Native.Nat.{ℕ}
use native.Mathlib.Omega.{arith}
use lib.Dec.{eqb}
use Rattle.rules.specs.Words.{pick, any, all, keep, from}
use Rattle.rules.specs.Trees.{Op, node}
use Rattle.rules.specs.Mining.{Episode, Log, Rel, Shape, nothing, single, flower, cut, is_empty, one_event, occurring, graph, follows, head_of, cut_or, single_or, shape_of, shape, build, grow, split, mined}
use Rattle.rules.proofs.BoolLaws.{bool_cases, not_both_lem}
use Rattle.rules.proofs.ListLaws.{Has, any_has, all_has, has_all, keep_has, any_false, has_from}
use Rattle.rules.proofs.Occurring.{Below, code_in, code_of}
use Rattle.rules.proofs.GraphLaws.{step_edge, edge_step, first_step}
use Rattle.rules.proofs.Shapes.{empty_is}
use Rattle.rules.proofs.Recursion.{mined_is}
use Rattle.mine_views.specs.Sublogs.{Sight, shown, Tight}
use Rattle.mine_views.proofs.TightLaws.{shown_kept, shown_bare, shown_full, tight_below}
use Rattle.mine_plan.specs.declared.Base.{Base}
use Rattle.mine_plan.specs.declared.Base.TheVariants.{Silent, Leaf, Flower}
use Rattle.mine_plan.specs.Plans.{lone, base_shape, base_tree}

-- ---- one code: only episodes of one event where it never follows itself

one_not : (a b : ℕ) (t : Episode) → follows a b t ≡ true → one_event t ≡ false
one_not a b [] h = absurd (false≢true h)
one_not a b (x ∷ []) h = absurd (false≢true (off (eqb a x) h))
  where
    off : (t : Bool) → ((t && false) || false) ≡ true → false ≡ true
    off true e = e
    off false e = e
one_not a b (x ∷ y ∷ t) h = refl

module _ (m : ℕ) (l : Log) (small : Below m l) (full : (t : Episode) → Has t l → is_empty t ≡ false) where
  abbrev edges : Rel
  edges a b = (graph m l).edge a b

  one_each : (a : ℕ) → occurring m l ≡ a ∷ [] → edges a a ≡ false → (t : Episode) → Has t l → one_event t ≡ true
  one_each a e h [] i = absurd (true≢false (full [] i))
  one_each a e h (x ∷ []) i = refl
  one_each a e h (x ∷ y ∷ t) i =
      let only : (c : ℕ) → Has c (x ∷ y ∷ t) → c ≡ a = λ c j. ⊎_elim (λ q. q) (λ n. absurd n) (subst (Has c) e (code_in m l small (x ∷ y ∷ t) i c j)) in
      let on : edges x y ≡ true = step_edge m l small (x ∷ y ∷ t) i x y (first_step x y t) in
      not_both_lem (edges a a) ((λ j. edges (sym (only x (inl refl)) j) (sym (only y (inr (inl refl))) j)) ∙ on) h

  ones_lone : (a : ℕ) → occurring m l ≡ a ∷ [] → all one_event l ≡ not (edges a a)
  ones_lone a e =
      ⊎_elim
      (λ (h : edges a a ≡ true).
      let k = edge_step m l a a h in
      (⊎_elim (λ (f : all one_event l ≡ true). not_both_lem (one_event k.0) (all_has one_event k.0 l f k.1) (one_not a a k.0 k.2)) (λ f. f) (bool_cases (all one_event l)))
      ∙ ap not (sym h))
      (λ (h : edges a a ≡ false). has_all one_event l (one_each a e h) ∙ ap not (sym h))
      (bool_cases (edges a a))

  single_is : (cs : List ℕ) → occurring m l ≡ cs → (z : Shape) → single_or cs (all one_event l) z ≡ pick (lone edges cs) (single (head_of cs)) z
  single_is [] e z = refl
  single_is (a ∷ []) e z = ap (λ (b : Bool). single_or (a ∷ []) b z) (ones_lone a e) ∙ by (not (edges a a))
    where
      by : (b : Bool) → single_or (a ∷ []) b z ≡ pick b (single a) z
      by true = refl
      by false = refl
  single_is (a ∷ b ∷ cs) e z = by (all one_event l)
    where
      by : (t : Bool) → single_or (a ∷ b ∷ cs) t z ≡ z
      by true = refl
      by false = refl

-- ---- the shape, by what the view says
module _ (m : ℕ) (s : Sight) (l : Log) (k : Tight m s l) where
  abbrev kept : List ℕ
  kept = keep s.kept (from 0 m)

  pub plan_silent : ((c : ℕ) → s.kept c ≡ false) → shape m (shown s l) ≡ nothing
  unfolding shape shape_of
  plan_silent none =
      ap (λ (b : Bool). shape_of b (any is_empty (shown s l)) (occurring m (shown s l)) (all one_event (shown s l)) (graph m (shown s l)))
      (has_all is_empty (shown s l) (λ t i. empty t i))
    where
      empty : (t : Episode) → Has t (shown s l) → is_empty t ≡ true
      empty [] i = refl
      empty (x ∷ t) i = absurd (true≢false (sym (shown_kept s l (x ∷ t) i x (inl refl)) ∙ none x))

  module _ (c : ℕ) (some : s.kept c ≡ true) where
    not_empty_lem : all is_empty (shown s l) ≡ false
    not_empty_lem =
        let q = code_of m (shown s l) c (subst (Has c) (sym k.occurs) (keep_has s.kept c (from 0 m) (has_from m 0 c (omega arith) (let b = k.below c some in omega arith)) some)) in
        ⊎_elim (λ (e : all is_empty (shown s l) ≡ true). absurd (subst (Has c) (empty_is q.0 (all_has is_empty q.0 (shown s l) e q.1)) q.2)) (λ e. e) (bool_cases (all is_empty (shown s l)))

    pub plan_flower : s.bare ≡ true → shape m (shown s l) ≡ flower kept
    unfolding shape shape_of
    plan_flower e =
        (λ i. shape_of (not_empty_lem i) (any_has is_empty [] (shown s l) (shown_bare s l e) refl i) (k.occurs i) (all one_event (shown s l)) (graph m (shown s l)))

    pub plan_rest : s.bare ≡ false → shape m (shown s l) ≡ pick (lone (graph m (shown s l)).edge kept) (single (head_of kept)) (cut_or (graph m (shown s l)) (flower kept))
    unfolding shape shape_of
    plan_rest e =
        let full = shown_full s l e in
        let none : any is_empty (shown s l) ≡ false = any_false is_empty (shown s l) full in
        (λ i. shape_of (not_empty_lem i) (none i) (k.occurs i) (all one_event (shown s l)) (graph m (shown s l)))
        ∙ single_is m (shown s l) (tight_below m s l k) full kept k.occurs (cut_or (graph m (shown s l)) (flower kept))

-- ---- the tree, by the shape
module _ (m : ℕ) (l : Log) (small : Below m l) where
  pub tree_base : (b : Base) (cs : List ℕ) → shape m l ≡ base_shape b cs → mined m l ≡ base_tree b cs
  unfolding build
  tree_base b cs e = mined_is m l small ∙ ap (build (mined m) l) e ∙ by b
    where
      by : (d : Base) → build (mined m) l (base_shape d cs) ≡ base_tree d cs
      by Silent = refl
      by Leaf = refl
      by Flower = refl

  pub tree_cut : (o : Op) (ps : List (List ℕ)) → shape m l ≡ cut o ps → mined m l ≡ node o (grow (λ p. mined m (split o p l)) ps)
  unfolding build
  tree_cut o ps e = mined_is m l small ∙ ap (build (mined m) l) e
