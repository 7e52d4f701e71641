-- The log of a part is what the part's view shows.
use mathlib.Core.Path.{◌≡◌, refl, sym, ◌∙◌, ap, subst}
use mathlib.Core.Logic.{◌⊎◌, inl, inr, ⊎_elim}
use mathlib.Core.List.{List, [], ◌∷◌, ◌++◌}
use mathlib.Core.Bool.{Bool, true, false, ◌||◌, true≢false}
use Prim.Native.Nat.{ℕ}
use Rattle.rules.specs.Words.{any, all, each, flat, mem}
use Rattle.rules.specs.Trees.{choice, sequence, loop}
use Rattle.rules.specs.Mining.{Episode, Log, is_empty, split, project, runs}
use Rattle.rules.proofs.BoolLaws.{bool_cases}
use Rattle.rules.proofs.ListLaws.{Has, any_has, has_any, all_has, has_all, has_keep, keep_has, keep_all, has_append_right, each_has, has_each, each_append, flat_append}
use Rattle.rules.proofs.SameEpisodes.{Within, Same}
use Rattle.rules.proofs.Shapes.{empty_is}
use Rattle.mine_views.specs.Sublogs.{pieces, empty_if, close, Sight, shown, bare_of, part_sight}
use Rattle.mine_views.proofs.WalkLaws.{filled, close_append, done_projected, done_chopped, runs_walk}

-- ---- lists of episodes, and those without the empty ones

filled_append : (xs ys : Log) → filled (xs ++ ys) ≡ filled xs ++ filled ys
filled_append [] ys = refl
filled_append (x ∷ xs) ys = ap (close x) (filled_append xs ys) ∙ close_append x (filled xs) (filled ys)

flat_runs : (f : Episode → Log) (d : Episode → Log) (l : Log) → flat (each f (flat (each d l))) ≡ flat (each (λ t. flat (each f (d t))) l)
flat_runs f d [] = refl
flat_runs f d (t ∷ l) =
    ap flat (each_append f (d t) (flat (each d l))) ∙ flat_append (each f (d t)) (each f (flat (each d l))) ∙ ap (◌++◌ (flat (each f (d t)))) (flat_runs f d l)

filled_flat : (f : Episode → Episode) (d : Episode → Log) (l : Log) → flat (each (λ t. filled (each f (d t))) l) ≡ filled (each f (flat (each d l)))
filled_flat f d [] = refl
filled_flat f d (t ∷ l) =
    ap (◌++◌ (filled (each f (d t)))) (filled_flat f d l) ∙ sym (filled_append (each f (d t)) (each f (flat (each d l)))) ∙ ap filled (sym (each_append f (d t) (flat (each d l))))

has_filled : (m : Log) (t : Episode) → Has t (filled m) → Has t m × (is_empty t ≡ false)
has_filled [] t i = absurd i
has_filled ([] ∷ m) t i = let k = has_filled m t i in (inr k.0, k.1)
has_filled ((a ∷ u) ∷ m) t (inl e) = (inl e, rw e refl)
has_filled ((a ∷ u) ∷ m) t (inr i) = let k = has_filled m t i in (inr k.0, k.1)

filled_has : (m : Log) (t : Episode) → Has t m → is_empty t ≡ false → Has t (filled m)
filled_has [] t i h = absurd i
filled_has ([] ∷ m) t (inl e) h = absurd (true≢false (rw e at h))
filled_has ([] ∷ m) t (inr i) h = filled_has m t i h
filled_has ((a ∷ u) ∷ m) t (inl e) h = inl e
filled_has ((a ∷ u) ∷ m) t (inr i) h = inr (filled_has m t i h)

-- a log is its empty episode, if it has one, and its others
pub bared_within : (m : Log) (b : Bool) → any is_empty m ≡ b → Within m (empty_if b ++ filled m)
bared_within m b e t i =
    ⊎_elim
    (λ (h : is_empty t ≡ true). let q : b ≡ true = sym e ∙ any_has is_empty t m i h in rw q (inl (empty_is t h)))
    (λ (h : is_empty t ≡ false). has_append_right t (empty_if b) (filled m) (filled_has m t i h))
    (bool_cases (is_empty t))

pub within_bared : (m : Log) (b : Bool) → any is_empty m ≡ b → Within (empty_if b ++ filled m) m
within_bared m true e t (inl h) = let k = has_any is_empty m e in subst (λ (u : Episode). Has u m) (empty_is k.0 k.2 ∙ sym h) k.1
within_bared m true e t (inr i) = (has_filled m t i).0
within_bared m false e t i = (has_filled m t i).0

any_each : {A B : Type 0} (p : B → Bool) (f : A → B) (xs : List A) → any (λ x. p (f x)) xs ≡ any p (each f xs)
any_each p f [] = refl
any_each p f (x ∷ xs) = ap (◌||◌ (p (f x))) (any_each p f xs)

project_all : (p t : List ℕ) → all (λ c. mem c p) t ≡ true → project p t ≡ t
unfolding project
project_all p t h = keep_all (λ c. mem c p) t (λ c i. all_has (λ x. mem x p) c t h i)

all_project : (p t : List ℕ) → all (λ c. mem c p) (project p t) ≡ true
unfolding project
all_project p t = has_all (λ c. mem c p) (project p t) (λ c i. (has_keep (λ x. mem x p) c t i).1)

-- a part of what a view with no empty episode keeps
pub record Good (v : Sight) (p : List ℕ) : Type 0 where
  pub inside : (x : ℕ) → mem x p ≡ true → v.kept x ≡ true
  pub off : (x : ℕ) → v.kept x ≡ true → v.breaks x ≡ false
  pub full : v.bare ≡ false

module _ (v : Sight) (p : List ℕ) (g : Good v p) (l : Log) where
  abbrev cut_up : Episode → Log
  cut_up t = pieces v.kept v.breaks t

  plain : shown v l ≡ flat (each cut_up l)
  unfolding shown
  plain = rw g.full

  narrow : flat (each (pieces (λ c. mem c p) v.breaks) l) ≡ filled (each (project p) (shown v l))
  unfolding project
  narrow =
      (λ i. flat (each (λ t. done_projected (λ c. mem c p) v.kept v.breaks g.inside g.off t i) l))
      ∙ filled_flat (project p) cut_up l ∙ ap (λ (m : Log). filled (each (project p) m)) (sym plain)

  pub loop_view : split loop p (shown v l) ≡ shown (part_sight loop p l v) l
  unfolding split shown
  loop_view =
      ap (λ (m : Log). flat (each (runs p) m)) plain ∙ flat_runs (runs p) cut_up l
      ∙ sym (λ i. flat (each (λ t. (done_chopped (λ c. mem c p) v.kept v.breaks g.inside t ∙ (λ j. flat (each (λ u. runs_walk p u j) (cut_up t)))) i) l))

  pub row_view : Same (each (project p) (shown v l)) (shown (part_sight sequence p l v) l)
  row_view =
      let m = each (project p) (shown v l) in
      let b = bare_of p l v in
      let e : any is_empty m ≡ b = sym (any_each is_empty (project p) (shown v l)) in
      let q : shown (part_sight sequence p l v) l ≡ empty_if b ++ filled m = unfold shown in ap (◌++◌ (empty_if b)) narrow in
      subst (Same m) (sym q) (bared_within m b e, within_bared m b e)

  pub choice_view : ((t : Episode) → Has t (shown v l) → is_empty t ≡ false) →
      ((t : Episode) → Has t (shown v l) → (project p t ≡ t) ⊎ (project p t ≡ [])) → Same (split choice p (shown v l)) (shown (part_sight choice p l v) l)
  unfolding split
  choice_view fullt whole =
      let q : shown (part_sight choice p l v) l ≡ filled (each (project p) (shown v l)) = unfold shown in narrow in
      subst (Same (split choice p (shown v l))) (sym q) (to, fro)
    where
      to : Within (split choice p (shown v l)) (filled (each (project p) (shown v l)))
      to t i =
          let k = has_keep (all (λ c. mem c p)) t (shown v l) i in
          filled_has (each (project p) (shown v l)) t
          (subst (λ (u : Episode). Has u (each (project p) (shown v l))) (project_all p t k.1) (each_has (project p) t (shown v l) k.0)) (fullt t k.0)

      fro : Within (filled (each (project p) (shown v l))) (split choice p (shown v l))
      fro t i =
          let k = has_filled (each (project p) (shown v l)) t i in
          let q = has_each (project p) t (shown v l) k.0 in
          ⊎_elim
          (λ e. keep_has (all (λ c. mem c p)) t (shown v l) (subst (λ (u : Episode). Has u (shown v l)) (sym (q.2 ∙ e)) q.1) (rw q.2 (all_project p q.0)))
          (λ e. let z : t ≡ [] = q.2 ∙ e in absurd (true≢false (rw z at k.1)))
          (whole q.0 q.1)
