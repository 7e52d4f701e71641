-- The language of a tree: its episodes have its codes alone; a list of children with one more at its end.
use Prim.Native.Nat.{ℕ}
use mathlib.Core.List.{List, [], ◌∷◌, ◌++◌, append_assoc}
use mathlib.Core.Path.{◌≡◌, refl, sym, ap, ◌∙◌, subst}
use mathlib.Core.Logic.{◌⊎◌, inl, inr, ⊎_elim}
use mathlib.Core.Bool.{Bool, ◌||◌}
use lib.Dec.{eqb}
use Rattle.rules.specs.Words.{mem}
use Rattle.rules.specs.Trees.{choice, sequence, parallel, loop, Tree, silent, leaf, node, Forest, none, more, labels, labels_all, Mixed, done, left, right, Looped, once, again, In, InOne, InRow, InMix, InLoop}
use Rattle.rules.proofs.BoolLaws.{or_assoc, or_off}
use Rattle.rules.proofs.ListLaws.{Has, has_append_left, has_append_right, has_append_cases}
use Rattle.judge_meanings.specs.Means.{Joined, Merged}
use Rattle.judge_meanings.proofs.KeepLaws.{mixed_has, mixed_left, mixed_right}

-- ---- the codes of an episode

looped_has : (B R : List ℕ → Type 0) (P : ℕ → Type 0) → ((u : List ℕ) → B u → (c : ℕ) → Has c u → P c) → ((u : List ℕ) → R u → (c : ℕ) → Has c u → P c)
    → {w : List ℕ} → Looped B R w → (c : ℕ) → Has c w → P c
looped_has B R P hB hR (once {w = w} b) c m = hB w b c m
looped_has B R P hB hR (again {u = u} {v = v} {w = w} b r l) c m = ⊎_elim
    (λ k. ⊎_elim (λ x. hB u b c x) (λ x. hR v r c x) (has_append_cases c u v k))
    (λ k. looped_has B R P hB hR l c k)
    (has_append_cases c (u ++ v) w m)

mutual
  pub own : (t : Tree) (w : List ℕ) → In t w → (c : ℕ) → Has c w → Has c (labels t)
  own silent w e c m = absurd (subst (Has c) e m)
  own (leaf a) w e c m = subst (Has c) e m
  own (node choice f) w i c m = own_one f w i c m
  own (node sequence f) w i c m = own_row f w i c m
  own (node parallel f) w i c m = own_mix f w i c m
  own (node loop f) w i c m = own_loop f w i c m

  pub own_one : (f : Forest) (w : List ℕ) → InOne f w → (c : ℕ) → Has c w → Has c (labels_all f)
  own_one none w i c m = absurd i
  own_one (more t f) w i c m = ⊎_elim
      (λ k. has_append_left c (labels t) (labels_all f) (own t w k c m))
      (λ k. has_append_right c (labels t) (labels_all f) (own_one f w k c m)) i

  pub own_row : (f : Forest) (w : List ℕ) → InRow f w → (c : ℕ) → Has c w → Has c (labels_all f)
  own_row none w e c m = absurd (subst (Has c) e m)
  own_row (more t f) w i c m = ⊎_elim
      (λ k. has_append_left c (labels t) (labels_all f) (own t i.0 i.3 c k))
      (λ k. has_append_right c (labels t) (labels_all f) (own_row f i.1 i.4 c k))
      (has_append_cases c i.0 i.1 (subst (Has c) i.2 m))

  pub own_mix : (f : Forest) (w : List ℕ) → InMix f w → (c : ℕ) → Has c w → Has c (labels_all f)
  own_mix none w e c m = absurd (subst (Has c) e m)
  own_mix (more t f) w i c m = ⊎_elim
      (λ k. has_append_left c (labels t) (labels_all f) (own t i.0 i.3 c k))
      (λ k. has_append_right c (labels t) (labels_all f) (own_mix f i.1 i.4 c k))
      (mixed_has i.2 c m)

  pub own_loop : (f : Forest) (w : List ℕ) → InLoop f w → (c : ℕ) → Has c w → Has c (labels_all f)
  own_loop none w i c m = absurd i
  own_loop (more t f) w i c m =
      looped_has (λ u. In t u) (λ v. InOne f v) (λ x. Has x (labels t ++ labels_all f))
      (λ u k x n. has_append_left x (labels t) (labels_all f) (own t u k x n))
      (λ u k x n. has_append_right x (labels t) (labels_all f) (own_one f u k x n)) i c m

-- ---- lists of children

-- f, then t
abbrev pub snoc : Forest → Tree → Forest
snoc none t = more t none
snoc (more u f) t = more u (snoc f t)

-- f, then g
abbrev pub append : Forest → Forest → Forest
append none g = g
append (more t f) g = more t (append f g)

pub append_snoc : (f : Forest) (t : Tree) (g : Forest) → append (snoc f t) g ≡ append f (more t g)
append_snoc none t g = refl
append_snoc (more u f) t g = ap (more u) (append_snoc f t g)

pub append_none : (f : Forest) → append f none ≡ f
append_none none = refl
append_none (more t f) = ap (more t) (append_none f)

pub labels_append : (f g : Forest) → labels_all (append f g) ≡ labels_all f ++ labels_all g
labels_append none g = refl
labels_append (more t f) g = ap (λ (l : List ℕ). labels t ++ l) (labels_append f g) ∙ sym (append_assoc (labels t) (labels_all f) (labels_all g))

pub mem_append : (c : ℕ) (xs ys : List ℕ) → mem c (xs ++ ys) ≡ (mem c xs || mem c ys)
mem_append c [] ys = refl
mem_append c (x ∷ xs) ys = ap (λ (b : Bool). eqb c x || b) (mem_append c xs ys) ∙ sym (or_assoc (eqb c x) (mem c xs) (mem c ys))

pub mem_snoc : (c : ℕ) (f : Forest) (t : Tree) → mem c (labels_all (snoc f t)) ≡ (mem c (labels_all f) || mem c (labels t))
mem_snoc c none t = mem_append c (labels t) [] ∙ or_off (mem c (labels t))
mem_snoc c (more u f) t =
    mem_append c (labels u) (labels_all (snoc f t)) ∙ ap (λ (b : Bool). mem c (labels u) || b) (mem_snoc c f t)
    ∙ sym (or_assoc (mem c (labels u)) (mem c (labels_all f)) (mem c (labels t))) ∙ ap (λ (b : Bool). b || mem c (labels t)) (sym (mem_append c (labels u) (labels_all f)))

-- ---- the language of a list with one more

pub one_snoc : (f : Forest) (t : Tree) (w : List ℕ) → InOne (snoc f t) w → InOne f w ⊎ In t w
one_snoc none t w (inl i) = inr i
one_snoc none t w (inr i) = absurd i
one_snoc (more u f) t w (inl i) = inl (inl i)
one_snoc (more u f) t w (inr i) = ⊎_elim (λ k. inl (inr k)) (λ k. inr k) (one_snoc f t w i)

pub snoc_one : (f : Forest) (t : Tree) (w : List ℕ) → InOne f w ⊎ In t w → InOne (snoc f t) w
snoc_one none t w (inl i) = absurd i
snoc_one none t w (inr i) = inl i
snoc_one (more u f) t w (inl (inl i)) = inl i
snoc_one (more u f) t w (inl (inr i)) = inr (snoc_one f t w (inl i))
snoc_one (more u f) t w (inr i) = inr (snoc_one f t w (inr i))

append-nil : (u : List ℕ) → u ++ [] ≡ u
append-nil [] = refl
append-nil (c ∷ u) = ap (λ (l : List ℕ). c ∷ l) (append-nil u)

pub row_first : (t : Tree) (w : List ℕ) → In t w → InRow (more t none) w
row_first t w i = (w, [], sym (append-nil w), i, refl)

pub first_row : (t : Tree) (w : List ℕ) → InRow (more t none) w → In t w
first_row t w i = subst (λ (x : List ℕ). In t x) (sym (i.2 ∙ ap (λ (v : List ℕ). i.0 ++ v) i.4 ∙ append-nil i.0)) i.3

pub row_snoc : (f : Forest) (t : Tree) (w : List ℕ) → InRow (snoc f t) w → Joined (λ u. InRow f u) (λ v. In t v) w
row_snoc none t w i = ([], w, refl, refl, first_row t w i)
row_snoc (more s f) t w i =
    let r = row_snoc f t i.1 i.4 in
    (i.0 ++ r.0, r.1, i.2 ∙ ap (λ (v : List ℕ). i.0 ++ v) r.2 ∙ sym (append_assoc i.0 r.0 r.1), (i.0, r.0, refl, i.3, r.3), r.4)

pub snoc_row : (f : Forest) (t : Tree) (w : List ℕ) → Joined (λ u. InRow f u) (λ v. In t v) w → InRow (snoc f t) w
snoc_row none t w i = (w, [], sym (append-nil w), subst (λ (x : List ℕ). In t x) (sym (i.2 ∙ ap (λ (u : List ℕ). u ++ i.1) i.3)) i.4, refl)
snoc_row (more s f) t w i =
    let j = i.3 in
    (j.0, j.1 ++ i.1, i.2 ∙ ap (λ (u : List ℕ). u ++ i.1) j.2 ∙ append_assoc j.0 j.1 i.1, j.3, snoc_row f t (j.1 ++ i.1) (j.1, i.1, refl, j.4, i.4))

-- an interleaving with nothing
mixed_none : {u v w : List ℕ} → Mixed u v w → v ≡ [] → w ≡ u
mixed_none done e = refl
mixed_none (left {a = a} m) e = ap (λ (l : List ℕ). a ∷ l) (mixed_none m e)
mixed_none (right m) e = absurd (subst (Has _) e (inl refl))

none_mixed : {u v w : List ℕ} → Mixed u v w → u ≡ [] → w ≡ v
none_mixed done e = refl
none_mixed (left m) e = absurd (subst (Has _) e (inl refl))
none_mixed (right {a = a} m) e = ap (λ (l : List ℕ). a ∷ l) (none_mixed m e)

all_left : (w : List ℕ) → Mixed w [] w
all_left [] = done
all_left (a ∷ w) = left (all_left w)

all_right : (w : List ℕ) → Mixed [] w w
all_right [] = done
all_right (a ∷ w) = right (all_right w)

pub mix_first : (t : Tree) (w : List ℕ) → In t w → InMix (more t none) w
mix_first t w i = (w, [], all_left w, i, refl)

pub first_mix : (t : Tree) (w : List ℕ) → InMix (more t none) w → In t w
first_mix t w i = subst (λ (x : List ℕ). In t x) (sym (mixed_none i.2 i.4)) i.3

pub mix_snoc : (f : Forest) (t : Tree) (w : List ℕ) → InMix (snoc f t) w → Merged (λ u. InMix f u) (λ v. In t v) w
mix_snoc none t w i = ([], w, all_right w, refl, first_mix t w i)
mix_snoc (more s f) t w i =
    let r = mix_snoc f t i.1 i.4 in
    let m = mixed_right r.2 i.2 in
    (m.0, r.1, m.2, (i.0, r.0, m.1, i.3, r.3), r.4)

pub snoc_mix : (f : Forest) (t : Tree) (w : List ℕ) → Merged (λ u. InMix f u) (λ v. In t v) w → InMix (snoc f t) w
snoc_mix none t w i = (w, [], all_left w, subst (λ (x : List ℕ). In t x) (sym (none_mixed i.2 i.3)) i.4, refl)
snoc_mix (more s f) t w i =
    let j = i.3 in
    let m = mixed_left j.2 i.2 in
    (j.0, m.0, m.2, j.3, snoc_mix f t m.0 (j.1, i.1, m.1, j.4, i.4))
