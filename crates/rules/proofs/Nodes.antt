-- Node by node: every node of a mined tree is mined from its own sublog, so that what holds of a mined tree holds at each node.
use mathlib.Core.Path.{◌≡◌, refl, sym, ◌∙◌, ap, subst}
use mathlib.Core.Logic.{◌⊎◌, inl, inr, ◌↔◌}
use mathlib.Core.List.{List, [], ◌∷◌}
use Prim.Native.Nat.{ℕ}
use Rattle.rules.specs.Trees.{Op, Tree, node, Forest, none, more}
use Rattle.rules.specs.Mining.{Log, occurring, graph, parts_of, shape, flower, cut, split, flower_of, grow, build, mined}
use Rattle.rules.proofs.BoolLaws.{clash}
use Rattle.rules.proofs.ListLaws.{Has}
use Rattle.rules.proofs.Occurring.{Below}
use Rattle.rules.proofs.Splits.{split_below}
use Rattle.rules.proofs.Shapes.{Blooms, shape_cases}
use Rattle.rules.proofs.Recursion.{mined_is}
use Rattle.rules.proofs.Flowers.{flower_tree, flower_exactly}

-- the sublogs of w: w itself, and of each that is cut, the logs of its parts
pub data Sublog (m : ℕ) (w : Log) : Log → Type 0 where
  whole : Sublog m w w
  part : {l : Log} → Sublog m w l → (o : Op) (ps : List (List ℕ)) → shape m l ≡ cut o ps → (p : List ℕ) → Has p ps → Sublog m w (split o p l)

-- u is a child
abbrev pub Child : Tree → Forest → Type 0
Child u none = ⊥
Child u (more t f) = (u ≡ t) ⊎ Child u f

-- u is a node of t, and not a child of a flower
pub data NodeOf (t : Tree) : Tree → Type 0 where
  root : NodeOf t t
  below : {o : Op} {f : Forest} {u : Tree} → NodeOf t (node o f) → ((cs : List ℕ) → node o f ≡ flower_of cs → ⊥) → Child u f → NodeOf t u

grown : (f : List ℕ → Tree) (ps : List (List ℕ)) (u : Tree) → Child u (grow f ps) → (p : List ℕ) × Has p ps × (u ≡ f p)
grown f [] u i = absurd i
grown f (p ∷ ps) u (inl e) = (p, inl refl, e)
grown f (p ∷ ps) u (inr i) = let k = grown f ps u i in (k.0, inr k.1, k.2)

grows : (f : List ℕ → Tree) (ps : List (List ℕ)) (p : List ℕ) → Has p ps → Child (f p) (grow f ps)
grows f [] p i = absurd i
grows f (q ∷ ps) p (inl e) = inl (ap f e)
grows f (q ∷ ps) p (inr i) = inr (grows f ps p i)

module _ (m : ℕ) (w : Log) (s : Below m w) where
  -- a node that is mined from a sublog
  abbrev pub Mined : Tree → Type 0
  Mined u = (l : Log) × Sublog m w l × Below m l × (u ≡ mined m l)

  child_mined : (o : Op) (f : Forest) (u : Tree) (l : Log) → Sublog m w l → Below m l → node o f ≡ mined m l → ((cs : List ℕ) → node o f ≡ flower_of cs → ⊥) → Child u f → Mined u
  unfolding build
  child_mined o f u l z b e n i =
      shape_cases m l b (λ q. shape m l ≡ q → node o f ≡ build (mined m) l q → Mined u) (λ _ _ h. clash (cc)) (λ a _ _ _ h. clash (cc)) (λ c _ _ _ h. absurd (n (occurring m l) h))
      (λ q k h d.
      let same : f ≡ grow (λ p. mined m (split q p l)) (parts_of q (graph m l)) = cc in
      let g = grown (λ p. mined m (split q p l)) (parts_of q (graph m l)) u (subst (Child u) same i) in
      (split q g.0 l, part z q (parts_of q (graph m l)) h g.0 g.1, split_below m q g.0 l b, g.2))
      refl (e ∙ mined_is m l b)

  -- THEOREM: every node of a mined tree that is not a child of a flower is mined from a sublog
  pub node_mined : {u : Tree} → NodeOf (mined m w) u → Mined u
  node_mined root = (w, whole, s, refl)
  node_mined (below {o = o} {f = f} {u = u} k n i) = let q = node_mined k in child_mined o f u q.0 q.1 q.2 q.3 n i

  pub sublog_below : {l : Log} → Sublog m w l → Below m l
  sublog_below whole = s
  sublog_below (part {l = l} z o ps e p i) = split_below m o p l (sublog_below z)

  -- THEOREM: and every sublog's tree is such a node
  pub mined_node : {l : Log} → Sublog m w l → NodeOf (mined m w) (mined m l)
  unfolding build
  mined_node whole = root
  mined_node (part {l = l} z o ps e p i) =
      let b = sublog_below z in
      let is : mined m l ≡ node o (grow (λ q. mined m (split o q l)) ps) = mined_is m l b ∙ ap (build (mined m) l) e in
      below (subst (NodeOf (mined m w)) is (mined_node z))
      (λ cs h. let f : shape m l ≡ flower cs = (flower_tree m l b cs).0 (is ∙ h) in clash (cc))
      (grows (λ q. mined m (split o q l)) ps p i)

  -- THEOREM: at every node, a flower stands exactly where document 01 says of the node's sublog
  pub flower_nodes : {u : Tree} → NodeOf (mined m w) u → (l : Log) × Sublog m w l × (u ≡ mined m l) × ((u ≡ flower_of (occurring m l)) ↔ Blooms m l)
  flower_nodes k =
      let q = node_mined k in
      let x = flower_exactly m q.0 q.2 in
      (q.0, q.1, q.3, ((λ e. x.0 (sym q.3 ∙ e)), λ b. q.3 ∙ x.1 b))
