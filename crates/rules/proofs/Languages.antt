-- A word of a tree has only the codes on the tree's leaves.
use mathlib.Core.Path.{subst}
use mathlib.Core.Logic.{◌⊎◌, inl, inr, ⊎_elim}
use mathlib.Core.List.{List, ◌++◌}
use Prim.Native.Nat.{ℕ}
use Rattle.rules.specs.Trees.{choice, sequence, parallel, loop, Tree, silent, leaf, node, Forest, none, more, labels, labels_all, In, InOne, InRow, InMix, InLoop, Mixed, done, left, right, Looped, once, again}
use Rattle.rules.proofs.ListLaws.{Has, has_append_left, has_append_right, has_append_cases}

-- w has only codes of xs
abbrev pub Only : List ℕ → List ℕ → Type 0
Only w xs = (c : ℕ) → Has c w → Has c xs

pub mixed_codes : {u v w : List ℕ} → Mixed u v w → (c : ℕ) → Has c w → Has c u ⊎ Has c v
mixed_codes done c i = absurd i
mixed_codes (left h) c (inl e) = inl (inl e)
mixed_codes (left h) c (inr i) = ⊎_elim (λ k. inl (inr k)) inr (mixed_codes h c i)
mixed_codes (right h) c (inl e) = inr (inl e)
mixed_codes (right h) c (inr i) = ⊎_elim inl (λ k. inr (inr k)) (mixed_codes h c i)

pub looped_codes : (B R : List ℕ → Type 0) (xs : List ℕ) → ((u : List ℕ) → B u → Only u xs) → ((v : List ℕ) → R v → Only v xs) → {w : List ℕ} → Looped B R w → Only w xs
looped_codes B R xs f g (once {w = w} b) c i = f w b c i
looped_codes B R xs f g (again {u = u} {v = v} {w = w} b r d) c i =
    ⊎_elim (λ k. ⊎_elim (f u b c) (g v r c) (has_append_cases c u v k)) (λ k. looped_codes B R xs f g d c k) (has_append_cases c (u ++ v) w i)

-- THEOREM: every code of a word of a tree labels a leaf of it
mutual
  pub in_labels : (t : Tree) (w : List ℕ) → In t w → Only w (labels t)
  in_labels silent w h c i = subst (Has c) h i
  in_labels (leaf a) w h c i = subst (Has c) h i
  in_labels (node choice f) w h c i = one_labels f w h c i
  in_labels (node sequence f) w h c i = row_labels f w h c i
  in_labels (node parallel f) w h c i = mix_labels f w h c i
  in_labels (node loop f) w h c i = loop_labels f w h c i

  pub one_labels : (f : Forest) (w : List ℕ) → InOne f w → Only w (labels_all f)
  one_labels none w h c i = absurd h
  one_labels (more t f) w h c i =
      ⊎_elim (λ k. has_append_left c (labels t) (labels_all f) (in_labels t w k c i)) (λ k. has_append_right c (labels t) (labels_all f) (one_labels f w k c i)) h

  pub row_labels : (f : Forest) (w : List ℕ) → InRow f w → Only w (labels_all f)
  row_labels none w h c i = subst (Has c) h i
  row_labels (more t f) w h c i =
      ⊎_elim (λ k. has_append_left c (labels t) (labels_all f) (in_labels t h.0 h.3 c k)) (λ k. has_append_right c (labels t) (labels_all f) (row_labels f h.1 h.4 c k))
      (has_append_cases c h.0 h.1 (subst (Has c) h.2 i))

  pub mix_labels : (f : Forest) (w : List ℕ) → InMix f w → Only w (labels_all f)
  mix_labels none w h c i = subst (Has c) h i
  mix_labels (more t f) w h c i =
      ⊎_elim (λ k. has_append_left c (labels t) (labels_all f) (in_labels t h.0 h.3 c k)) (λ k. has_append_right c (labels t) (labels_all f) (mix_labels f h.1 h.4 c k))
      (mixed_codes h.2 c i)

  pub loop_labels : (f : Forest) (w : List ℕ) → InLoop f w → Only w (labels_all f)
  loop_labels none w h c i = absurd h
  loop_labels (more t f) w h c i =
      looped_codes (λ u. In t u) (λ v. InOne f v) (labels t ++ labels_all f)
      (λ u b d j. has_append_left d (labels t) (labels_all f) (in_labels t u b d j)) (λ v r d j. has_append_right d (labels t) (labels_all f) (one_labels f v r d j)) h c i
