-- Entries that hold trees: sizes, lists walked child by child, every entry of a tree; parts of well-formed trees.
use Prim.Native.Nat.{ℕ, suc, ◌+◌, ◌≤◌, ◌<◌}
use native.Mathlib.Omega.{arith}
use mathlib.Core.List.{List, [], ◌∷◌, ◌++◌}
use mathlib.Core.Path.{◌≡◌, sym, subst}
use mathlib.Core.Logic.{inl, inr, ⊎_elim}
use mathlib.Core.Bool.{true, false}
use Rattle.rules.specs.Words.{mem, Has}
use Rattle.rules.specs.Trees.{Op, Tree, silent, leaf, node, Forest, none, more, size, sizes, labels, labels_all}
use Rattle.rules.specs.WellFormed.{Distinct, TwoTrees, Wide, WellFormed}
use Rattle.rules.specs.TreeBlock.{kind_at, size_at}
use Rattle.rules.specs.Holds.{Holds, HoldsAll}
use Rattle.rules.specs.Calls.{code_count, entry_count}
use Rattle.rules.proofs.BoolLaws.{bool_cases}
use Rattle.rules.proofs.ListLaws.{has_append_left, has_append_right, mem_has}
use Rattle.code_sets.proofs.BitLaws.{lt_or_le}
use Rattle.judge_meanings.proofs.LanguageLaws.{append, labels_append}
use Rattle.judge_subtrees.specs.Entries.{WellFormedAll, Subtree, Subtrees}

-- ---- sizes

pub holds_size : (t : Tree) (b : List ℕ) (v : ℕ) → Holds t b v → size_at b v ≡ size t
holds_size silent b v h = h.size
holds_size (leaf a) b v h = h.size
holds_size (node o f) b v h = h.0.size

pub size_some : (t : Tree) → 0 < size t
size_some silent = omega arith
size_some (leaf a) = omega arith
size_some (node o f) = omega arith

-- ---- a list, child by child

pub first_child : (b : List ℕ) (from end : ℕ) → Subtrees b from end → from < end → (0 < size_at b from) × (from + size_at b from ≤ end)
first_child b from end s l = go s.trees s.held s.ends
  where
    go : (f : Forest) → HoldsAll f b from → from + sizes f ≡ end → (0 < size_at b from) × (from + size_at b from ≤ end)
    go none h e = absurd (omega arith)
    go (more t f) h e = let q = holds_size t b from h.0 in let z = size_some t in (omega arith, omega arith)

pub other_children : (b : List ℕ) (from end : ℕ) → Subtrees b from end → from < end → Subtrees b (from + size_at b from) end
other_children b from end s l = go s.trees s.held s.ends
  where
    go : (f : Forest) → HoldsAll f b from → from + sizes f ≡ end → Subtrees b (from + size_at b from) end
    go none h e = absurd (omega arith)
    go (more t f) h e =
        let q = holds_size t b from h.0 in
        record { trees = f; held = subst (λ (n : ℕ). HoldsAll f b (from + n)) (sym q) h.1; ends = omega arith }

-- ---- parts of well-formed trees

distinct_left : (xs ys : List ℕ) → Distinct (xs ++ ys) → Distinct xs
distinct_left [] ys d = tt
distinct_left (x ∷ xs) ys d = (λ m. d.0 (has_append_left x xs ys m), distinct_left xs ys d.1)

distinct_right : (xs ys : List ℕ) → Distinct (xs ++ ys) → Distinct ys
distinct_right [] ys d = d
distinct_right (x ∷ xs) ys d = distinct_right xs ys d.1

distinct_apart : (xs ys : List ℕ) → Distinct (xs ++ ys) → (c : ℕ) → Has c xs → Has c ys → ⊥
distinct_apart [] ys d c m n = m
distinct_apart (x ∷ xs) ys d c (inl e) n = d.0 (has_append_right x xs ys (rw e at n))
distinct_apart (x ∷ xs) ys d c (inr m) n = distinct_apart xs ys d.1 c m n

module _ (m : ℕ) where
  pub children_formed : (o : Op) (f : Forest) → WellFormed m (node o f) → WellFormedAll m f
  children_formed o f w = record { wide = w.wide.1; coded = w.coded; distinct = w.distinct }

  pub first_formed : (t : Tree) (f : Forest) → WellFormedAll m (more t f) → WellFormed m t
  first_formed t f w =
      record {
        wide = w.wide.0;
        coded = λ c h. w.coded c (has_append_left c (labels t) (labels_all f) h);
        distinct = distinct_left (labels t) (labels_all f) w.distinct;
      }

  pub others_formed : (t : Tree) (f : Forest) → WellFormedAll m (more t f) → WellFormedAll m f
  others_formed t f w =
      record {
        wide = w.wide.1;
        coded = λ c h. w.coded c (has_append_right c (labels t) (labels_all f) h);
        distinct = distinct_right (labels t) (labels_all f) w.distinct;
      }

  -- what stands after some children
  pub back_formed : (d r : Forest) → WellFormedAll m (append d r) → WellFormedAll m r
  back_formed none r w = w
  back_formed (more t d) r w = back_formed d r (others_formed t (append d r) w)

  -- a child has no code of those before it
  pub child_apart : (d : Forest) (t : Tree) (r : Forest) → WellFormedAll m (append d (more t r)) → (c : ℕ) → mem c (labels_all d) ≡ true → mem c (labels t) ≡ false
  child_apart d t r w c p = ⊎_elim
      (λ (q : mem c (labels t) ≡ true). absurd (distinct_apart (labels_all d) (labels_all (more t r)) (subst Distinct (labels_append d (more t r)) w.distinct) c
      (mem_has c (labels_all d) p) (has_append_left c (labels t) (labels_all r) (mem_has c (labels t) q))))
      (λ q. q)
      (bool_cases (mem c (labels t)))

-- ---- every entry of a tree holds a tree within it

wider : (b : List ℕ) (u e f : ℕ) → e ≤ f → Subtree b u e → Subtree b u f
wider b u e f h s = let k = s.ends in record { tree = s.tree; held = s.held; formed = s.formed; ends = omega arith }

pub subtree_few : (b : List ℕ) (u e : ℕ) → e ≤ entry_count → Subtree b u e → Subtree b u entry_count
subtree_few b u e h s = wider b u e entry_count h s

mutual
  pub every_entry : (t : Tree) (b : List ℕ) (v u : ℕ) → Holds t b v → WellFormed code_count t → v ≤ u → u < v + size t → Subtree b u (v + size t)
  every_entry silent b v u h w l g = let e : v ≡ u = omega arith in record { tree = silent; held = subst (Holds silent b) e h; formed = w; ends = omega arith }
  every_entry (leaf a) b v u h w l g = let e : v ≡ u = omega arith in record { tree = leaf a; held = subst (Holds (leaf a) b) e h; formed = w; ends = omega arith }
  every_entry (node o f) b v u h w l g = ⊎_elim
      (λ (k : v < u). wider b u (v + 1 + sizes f) (v + suc (sizes f)) (omega arith) (every_entry_of f b (v + 1) u h.1 (children_formed code_count o f w) (omega arith) (omega arith)))
      (λ (k : u ≤ v). let e : v ≡ u = omega arith in record { tree = node o f; held = subst (Holds (node o f) b) e h; formed = w; ends = omega arith })
      (lt_or_le v u)

  every_entry_of : (f : Forest) (b : List ℕ) (v u : ℕ) → HoldsAll f b v → WellFormedAll code_count f → v ≤ u → u < v + sizes f → Subtree b u (v + sizes f)
  every_entry_of none b v u h w l g = absurd (omega arith)
  every_entry_of (more t f) b v u h w l g = ⊎_elim
      (λ (k : u < v + size t). wider b u (v + size t) (v + (size t + sizes f)) (omega arith) (every_entry t b v u h.0 (first_formed code_count t f w) l k))
      (λ (k : v + size t ≤ u). wider b u (v + size t + sizes f) (v + (size t + sizes f)) (omega arith) (every_entry_of f b (v + size t) u h.1 (others_formed code_count t f w) k (omega arith)))
      (lt_or_le u (v + size t))

-- ---- an operator's children

two_some : (f : Forest) → TwoTrees f → 0 < sizes f
two_some none h = absurd h
two_some (more t none) h = absurd h
two_some (more t (more u f)) h = omega (arith, size_some t)

module _ (b : List ℕ) (v end : ℕ) (s : Subtree b v end) where
  pub subtree_size : (0 < size_at b v) × (v + size_at b v ≤ end)
  subtree_size =
      let q = holds_size s.tree b v s.held in
      let z = size_some s.tree in
      let l = s.ends in
      (omega arith, omega arith)

  pub subtree_ends : (t : Tree) → Holds t b v → v + size t ≤ end
  subtree_ends t h = let q = holds_size t b v h in omega (arith, subtree_size)

  module _ (no1 : kind_at b v ≡ 1 → ⊥) (no2 : kind_at b v ≡ 2 → ⊥) where
    pub operator_children : Subtrees b (v + 1) (v + size_at b v)
    operator_children = go s.tree s.held
      where
        go : (t : Tree) → Holds t b v → Subtrees b (v + 1) (v + size_at b v)
        go silent h = absurd (no1 h.kind)
        go (leaf a) h = absurd (no2 h.kind)
        go (node o f) h = let q = h.0.size in record { trees = f; held = h.1; ends = omega arith }

    pub operator_some : v + 1 < v + size_at b v
    operator_some = go s.tree s.held s.formed.wide
      where
        go : (t : Tree) → Holds t b v → Wide t → v + 1 < v + size_at b v
        go silent h w = absurd (no1 h.kind)
        go (leaf a) h w = absurd (no2 h.kind)
        go (node o f) h w = let q = h.0.size in omega (arith, two_some f w.0)

    pub operator_two : v + 1 + size_at b (v + 1) < v + size_at b v
    operator_two = go s.tree s.held s.formed.wide
      where
        go : (t : Tree) → Holds t b v → Wide t → v + 1 + size_at b (v + 1) < v + size_at b v
        go silent h w = absurd (no1 h.kind)
        go (leaf a) h w = absurd (no2 h.kind)
        go (node o none) h w = absurd w.0
        go (node o (more t none)) h w = absurd w.0
        go (node o (more t (more u f))) h w = omega (arith, h.0.size, holds_size t b (v + 1) h.1.0, size_some u)
