-- Process trees, their size and their leaves, and their language by section 3 of 000.
use Rattle.std.specs.Prelude.{◌≡◌, List, [], ◌∷◌, ◌++◌, ◌⊎◌, ℕ, suc, ◌+◌}

pub data Op : Type 0 where
  choice sequence parallel loop : Op

mutual
  pub data Tree : Type 0 where
    silent : Tree
    leaf : ℕ → Tree
    node : Op → Forest → Tree

  pub data Forest : Type 0 where
    none : Forest
    more : Tree → Forest → Forest

-- the nodes of a tree, itself included
abbrev mutual
  pub size : Tree → ℕ
  size silent = 1
  size (leaf a) = 1
  size (node o f) = suc (sizes f)

  pub sizes : Forest → ℕ
  sizes none = 0
  sizes (more t f) = size t + sizes f

-- how many children
abbrev pub children : Forest → ℕ
children none = 0
children (more t f) = suc (children f)

-- the codes on the leaves, from left to right
abbrev mutual
  pub labels : Tree → List ℕ
  labels silent = []
  labels (leaf a) = a ∷ []
  labels (node o f) = labels_all f

  pub labels_all : Forest → List ℕ
  labels_all none = []
  labels_all (more t f) = labels t ++ labels_all f

-- w is an interleaving of u and v
pub data Mixed : List ℕ → List ℕ → List ℕ → Type 0 where
  done : Mixed [] [] []
  left : {a : ℕ} {u v w : List ℕ} → Mixed u v w → Mixed (a ∷ u) v (a ∷ w)
  right : {a : ℕ} {u v w : List ℕ} → Mixed u v w → Mixed u (a ∷ v) (a ∷ w)

-- a body, then any number of times a redo and a body
pub data Looped (B R : List ℕ → Type 0) : List ℕ → Type 0 where
  once : {w : List ℕ} → B w → Looped B R w
  again : {u v w : List ℕ} → B u → R v → Looped B R w → Looped B R (u ++ v ++ w)

-- the episode w is in the language of a tree
abbrev mutual
  pub In : Tree → List ℕ → Type 0
  In silent w = w ≡ []
  In (leaf a) w = w ≡ a ∷ []
  In (node choice f) w = InOne f w
  In (node sequence f) w = InRow f w
  In (node parallel f) w = InMix f w
  In (node loop f) w = InLoop f w

  -- in the language of some child
  pub InOne : Forest → List ℕ → Type 0
  InOne none w = ⊥
  InOne (more t f) w = In t w ⊎ InOne f w

  -- a joining, in order, of an episode of each child
  pub InRow : Forest → List ℕ → Type 0
  InRow none w = w ≡ []
  InRow (more t f) w = (u : List ℕ) × (v : List ℕ) × (w ≡ u ++ v) × In t u × InRow f v

  -- an interleaving of an episode of each child
  pub InMix : Forest → List ℕ → Type 0
  InMix none w = w ≡ []
  InMix (more t f) w = (u : List ℕ) × (v : List ℕ) × Mixed u v w × In t u × InMix f v

  -- the first child is the body, the others are the redos
  pub InLoop : Forest → List ℕ → Type 0
  InLoop none w = ⊥
  InLoop (more t f) w = Looped (λ u. In t u) (λ v. InOne f v) w
