-- The tree of a log said node by node, with no bound on the depth: every node is what its own sublog's shape says.
use mathlib.Core.Path.{◌≡◌, refl, sym, ◌∙◌, ap}
use mathlib.Core.Logic.{inl, inr}
use mathlib.Core.List.{List, [], ◌∷◌}
use Prim.Native.Nat.{ℕ, zero, suc, ◌<◌}
use native.Mathlib.Omega.{arith}
use lib.ListN.{length}
use Rattle.rules.specs.Trees.{Op, Tree, silent, leaf, node, Forest, none, more}
use Rattle.rules.specs.Mining.{Log, occurring, graph, parts_of, shape, Shape, nothing, single, flower, cut, split, flower_of, grow, build, mine, mined}
use Rattle.rules.proofs.ListLaws.{Has}
use Rattle.rules.proofs.Occurring.{Below, occurring_few}
use Rattle.rules.proofs.Splits.{split_below}
use Rattle.rules.proofs.Shapes.{shape_cases, fewer}
use Rattle.rules.proofs.Recursion.{mined_is}

mutual
  -- the tree is made of the log
  pub data Made (m : ℕ) : Log → Tree → Type 0 where
    made_silent : {l : Log} → shape m l ≡ nothing → Made m l silent
    made_leaf : {l : Log} {a : ℕ} → shape m l ≡ single a → Made m l (leaf a)
    made_flower : {l : Log} {cs : List ℕ} {t : Tree} → shape m l ≡ flower cs → t ≡ flower_of cs → Made m l t
    made_cut : {l : Log} {o : Op} {ps : List (List ℕ)} {f : Forest} → shape m l ≡ cut o ps → MadeAll m o l ps f → Made m l (node o f)

  -- each tree is made of the log of its part
  pub data MadeAll (m : ℕ) : Op → Log → List (List ℕ) → Forest → Type 0 where
    made_none : {o : Op} {l : Log} → MadeAll m o l [] none
    made_more : {o : Op} {l : Log} {p : List ℕ} {ps : List (List ℕ)} {t : Tree} {f : Forest} → Made m (split o p l) t → MadeAll m o l ps f → MadeAll m o l (p ∷ ps) (more t f)

module _ (m : ℕ) where
  made_grow : (sub : Log → Tree) (o : Op) (l : Log) (ps : List (List ℕ)) → ((p : List ℕ) → Has p ps → Made m (split o p l) (sub (split o p l))) → MadeAll m o l ps (grow (λ p. sub (split o p l)) ps)
  made_grow sub o l [] h = made_none
  made_grow sub o l (p ∷ ps) h = made_more (h p (inl refl)) (made_grow sub o l ps (λ q i. h q (inr i)))

  made_build : (sub : Log → Tree) (l : Log) → Below m l → ((k : Log) → Below m k → length (occurring m k) < length (occurring m l) → Made m k (sub k)) → Made m l (build sub l (shape m l))
  unfolding build
  made_build sub l s below =
      shape_cases m l s (λ z. shape m l ≡ z → Made m l (build sub l z)) (λ _ e. made_silent e) (λ a i _ e. made_leaf e) (λ c i _ e. made_flower e refl)
      (λ o k e. made_cut e (made_grow sub o l (parts_of o (graph m l)) (λ p i. below (split o p l) (split_below m o p l s) (fewer m l s o k p i)))) refl

  made_mine : (n : ℕ) (l : Log) → Below m l → length (occurring m l) < n → Made m l (mine m n l)
  unfolding mine
  made_mine zero l s h = absurd (omega arith)
  made_mine (suc n) l s h = made_build (mine m n) l s (λ k t i. made_mine n k t (omega arith))

  -- THEOREM: the mined tree is made of its log, node by node
  pub mined_made : (l : Log) → Below m l → Made m l (mined m l)
  unfolding mined
  mined_made l s = let h = occurring_few m l in made_mine (suc m) l s (omega arith)

  built : (l : Log) (z : Shape) → Below m l → shape m l ≡ z → mined m l ≡ build (mined m) l z
  built l z s e = mined_is m l s ∙ ap (build (mined m) l) e

  -- THEOREM: and no other tree is
  mutual
    unfolding build

    pub made_mined : {l : Log} {t : Tree} → Below m l → Made m l t → t ≡ mined m l
    made_mined s (made_silent {l = l} e) = sym (built l nothing s e)
    made_mined s (made_leaf {l = l} {a = a} e) = sym (built l (single a) s e)
    made_mined s (made_flower {l = l} {cs = cs} {t = t} e q) = q ∙ sym (built l (flower cs) s e)
    made_mined s (made_cut {l = l} {o = o} {ps = ps} {f = f} e k) = ap (node o) (all_mined s k) ∙ sym (built l (cut o ps) s e)

    all_mined : {o : Op} {l : Log} {ps : List (List ℕ)} {f : Forest} → Below m l → MadeAll m o l ps f → f ≡ grow (λ p. mined m (split o p l)) ps
    all_mined s (made_none {o = o} {l = l}) = refl
    all_mined s (made_more {o = o} {l = l} {p = p} {ps = ps} {t = t} {f = f} k ks) = λ i. more (made_mined (split_below m o p l s) k i) (all_mined s ks i)
