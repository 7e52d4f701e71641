-- Well-formed trees in the page's words: each operator has at least 2 children, no code labels two leaves, and no leaf is a heartbeat.
-- m is the number of codes.
use Rattle.std.specs.Prelude.{List, [], ◌∷◌, ℕ}
use Rattle.rules.specs.Words.{Has}
use Rattle.rules.specs.Heartbeats.{EventCode}
use Rattle.rules.specs.Trees.{Tree, silent, leaf, node, Forest, none, more, labels}

-- no number stands twice
abbrev pub Distinct : List ℕ → Type 0
Distinct [] = Unit {0}
Distinct (x ∷ xs) = (Has x xs → ⊥) × Distinct xs

-- two trees or more
abbrev pub TwoTrees : Forest → Type 0
TwoTrees none = ⊥
TwoTrees (more t none) = ⊥
TwoTrees (more t (more u f)) = Unit {0}

-- each operator has at least 2 children
abbrev mutual
  pub Wide : Tree → Type 0
  Wide silent = Unit {0}
  Wide (leaf a) = Unit {0}
  Wide (node o f) = TwoTrees f × WideAll f

  pub WideAll : Forest → Type 0
  WideAll none = Unit {0}
  WideAll (more t f) = Wide t × WideAll f

pub record WellFormed (m : ℕ) (t : Tree) : Type 0 where
  pub wide : Wide t
  pub coded : (c : ℕ) → Has c (labels t) → EventCode m c
  pub distinct : Distinct (labels t)
