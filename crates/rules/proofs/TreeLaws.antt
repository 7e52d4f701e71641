-- Sizes of trees and numbers of children.
use Prim.Native.Nat.{◌≤◌, ◌<◌}
use native.Mathlib.Omega.{arith}
use Rattle.rules.specs.Trees.{Tree, silent, leaf, node, Forest, none, more, size, sizes, children}
use Rattle.rules.specs.WellFormed.{TwoTrees}

pub tree_some : (t : Tree) → 0 < size t
tree_some silent = omega arith
tree_some (leaf a) = omega arith
tree_some (node o f) = omega arith

pub children_sizes : (f : Forest) → children f ≤ sizes f
children_sizes none = omega arith
children_sizes (more t f) = let some = tree_some t in let below = children_sizes f in omega arith

pub two_children : (f : Forest) → TwoTrees f → 2 ≤ children f
two_children none w = absurd w
two_children (more t none) w = absurd w
two_children (more t (more u f)) w = omega arith

pub children_two : (f : Forest) → 2 ≤ children f → TwoTrees f
children_two none w = omega arith
children_two (more t none) w = omega arith
children_two (more t (more u f)) w = tt
