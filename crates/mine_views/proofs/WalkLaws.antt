-- Laws of walks: the walk of a smaller set, and the walk that breaks at what is left out.
use mathlib.Core.Path.{◌≡◌, refl, sym, ◌∙◌, ap, subst}
use mathlib.Core.Logic.{inl, inr, ⊎_elim}
use mathlib.Core.List.{List, [], ◌∷◌, ◌++◌}
use mathlib.Core.Bool.{Bool, true, false, not, ◌&&◌, ◌||◌, false≢true, true≢false}
use Prim.Native.Nat.{ℕ}
use Rattle.rules.specs.Words.{push, keep, each, flat, mem}
use Rattle.rules.specs.Mining.{Episode, is_empty, runs, add_to, starts_in}
use Rattle.rules.proofs.ListLaws.{Has}
use Rattle.mine_views.specs.Sublogs.{Set, Walk, close, step_by, walk, done, pieces}

-- without the empty ones
abbrev pub filled : List Episode → List Episode
filled [] = []
filled (u ∷ us) = close u (filled us)

-- the walk of a smaller set is the projection of the walk
abbrev projected : Set → Walk → Walk
projected p w = (keep p w.0, filled (each (keep p) w.1))

close_projected : (p : Set) (o : List ℕ) (cs : List Episode) → close (keep p o) (filled (each (keep p) cs)) ≡ filled (each (keep p) (close o cs))
close_projected p [] cs = refl
close_projected p (a ∷ o) cs = refl

step_projected : (k : Set) (x : ℕ) (p s b : Bool) → k x ≡ p → (p ≡ true → s ≡ true) → (s ≡ true → b ≡ false) → (w : Walk) →
    step_by p b x (projected k w) ≡ projected k (step_by s b x w)
step_projected k x true true b e f g w = ap (λ (q : Bool). (push q x (keep k w.0), filled (each (keep k) w.1))) (sym e)
step_projected k x true false b e f g w = absurd (false≢true (f refl))
step_projected k x false true true e f g w = absurd (true≢false (g refl))
step_projected k x false true false e f g w = ap (λ (q : Bool). (push q x (keep k w.0), filled (each (keep k) w.1))) (sym e)
step_projected k x false false true e f g w = ap (λ (z : List Episode). ([], z)) (close_projected k w.0 w.1)
step_projected k x false false false e f g w = refl

module _ (k s b : Set) (in-s : (x : ℕ) → k x ≡ true → s x ≡ true) (off : (x : ℕ) → s x ≡ true → b x ≡ false) where
  pub walk_projected : (t : List ℕ) → walk k b t ≡ projected k (walk s b t)
  walk_projected [] = refl
  walk_projected (x ∷ t) =
      ap (step_by (k x) (b x) x) (walk_projected t) ∙ step_projected k x (k x) (s x) (b x) refl (in-s x) (off x) (walk s b t)

  pub done_projected : (t : List ℕ) → pieces k b t ≡ filled (each (keep k) (pieces s b t))
  done_projected t = ap done (walk_projected t) ∙ close_projected k (walk s b t).0 (walk s b t).1

-- the runs of the pieces are the pieces of a walk that breaks at what is left out
abbrev run_of : Set → List ℕ → Walk
run_of k t = walk k (λ x. not (k x)) t

abbrev chopped : Set → Walk → Walk
chopped k w = let r = run_of k w.0 in (r.0, r.1 ++ flat (each (λ u. done (run_of k u)) w.1))

pub close_append : (o : List ℕ) (cs ds : List Episode) → close o (cs ++ ds) ≡ close o cs ++ ds
close_append [] cs ds = refl
close_append (a ∷ o) cs ds = refl

close_chopped : (k : Set) (o : List ℕ) (cs : List Episode) → done (chopped k (o, cs)) ≡ flat (each (λ u. done (run_of k u)) (close o cs))
close_chopped k [] cs = refl
close_chopped k (a ∷ o) cs = let r = run_of k (a ∷ o) in close_append r.0 r.1 (flat (each (λ u. done (run_of k u)) cs))

abbrev rest_of : Set → Walk → List Episode
rest_of k w = flat (each (λ u. done (run_of k u)) w.1)

abbrev chop_by : Set → ℕ → Walk → Bool → Walk
chop_by k x w q = let r = step_by q (not q) x (run_of k w.0) in (r.0, r.1 ++ rest_of k w)

chop_off : (k : Set) (x : ℕ) (w : Walk) → k x ≡ false → ◌≡◌ {A = Walk} ([], close (run_of k w.0).0 ((run_of k w.0).1 ++ rest_of k w)) (chop_by k x w (k x))
chop_off k x w e = ap (λ (z : List Episode). ([], z)) (close_append (run_of k w.0).0 (run_of k w.0).1 (rest_of k w)) ∙ ap (chop_by k x w) (sym e)

-- a code that is kept, or of the parent's set, or a break, or none
step_chopped : (k : Set) (x : ℕ) (p s b : Bool) → k x ≡ p → (p ≡ true → s ≡ true) → (w : Walk) →
    step_by p (b || (s && not p)) x (chopped k w) ≡ chopped k (step_by s b x w)
step_chopped k x true true b e f w = ap (chop_by k x w) (sym e)
step_chopped k x true false b e f w = absurd (false≢true (f refl))
step_chopped k x false true true e f w = chop_off k x w e
step_chopped k x false true false e f w = chop_off k x w e
step_chopped k x false false true e f w = ap (λ (z : List Episode). ([], z)) (close_chopped k w.0 w.1)
step_chopped k x false false false e f w = refl

module _ (k s b : Set) (in-s : (x : ℕ) → k x ≡ true → s x ≡ true) where
  pub walk_chopped : (t : List ℕ) → walk k (λ x. b x || (s x && not (k x))) t ≡ chopped k (walk s b t)
  walk_chopped [] = refl
  walk_chopped (x ∷ t) =
      ap (step_by (k x) (b x || (s x && not (k x))) x) (walk_chopped t) ∙ step_chopped k x (k x) (s x) (b x) refl (in-s x) (walk s b t)

  pub done_chopped : (t : List ℕ) → done (walk k (λ x. b x || (s x && not (k x))) t) ≡ flat (each (λ u. done (run_of k u)) (pieces s b t))
  done_chopped t = ap done (walk_chopped t) ∙ close_chopped k (walk s b t).0 (walk s b t).1

-- the longest runs are such pieces
start_of : List ℕ → Bool
start_of [] = false
start_of (x ∷ o) = true

run_start : (p t : List ℕ) → start_of (run_of (λ c. mem c p) t).0 ≡ starts_in p t
unfolding start_of
run_start p [] = refl
run_start p (x ∷ t) = by (mem x p)
  where
    by : (q : Bool) → start_of (step_by q (not q) x (run_of (λ c. mem c p) t)).0 ≡ q
    by true = refl
    by false = refl

step_run : (q : Bool) (x : ℕ) (w : Walk) → done (step_by q (not q) x w) ≡ add_to q (start_of w.0) x (done w)
unfolding start_of
step_run q x w = by q w.0
  where
    by : (q : Bool) (o : List ℕ) → done (step_by q (not q) x (o, w.1)) ≡ add_to q (start_of o) x (close o w.1)
    by false [] = refl
    by false (a ∷ o) = refl
    by true [] = refl
    by true (a ∷ o) = refl

pub runs_walk : (p t : List ℕ) → done (run_of (λ c. mem c p) t) ≡ runs p t
runs_walk p [] = refl
runs_walk p (x ∷ t) =
    step_run (mem x p) x (run_of (λ c. mem c p) t)
    ∙ (λ i. add_to (mem x p) (run_start p t i) x (runs_walk p t i))

-- ---- what sub-episodes are

-- each has an event
pub piece_full : (w : Walk) → ((t : Episode) → Has t w.1 → is_empty t ≡ false) → (t : Episode) → Has t (done w) → is_empty t ≡ false
piece_full w later t m = by w.0 m
  where
    by : (o : Episode) → Has t (close o w.1) → is_empty t ≡ false
    by [] i = later t i
    by (a ∷ o) (inl e) = rw e refl
    by (a ∷ o) (inr i) = later t i

step_full : (p b : Bool) (x : ℕ) (w : Walk) → ((t : Episode) → Has t w.1 → is_empty t ≡ false) → (t : Episode) → Has t (step_by p b x w).1 → is_empty t ≡ false
step_full true b x w later t m = later t m
step_full false true x w later t m = piece_full w later t m
step_full false false x w later t m = later t m

later_full : (k b : Set) (u t : Episode) → Has t (walk k b u).1 → is_empty t ≡ false
later_full k b [] t m = absurd m
later_full k b (x ∷ u) t m = step_full (k x) (b x) x (walk k b u) (later_full k b u) t m

pub pieces_full : (k b : Set) (u t : Episode) → Has t (pieces k b u) → is_empty t ≡ false
pieces_full k b u = piece_full (walk k b u) (later_full k b u)

-- all their codes are kept
abbrev Kept : Set → List Episode → Type 0
Kept k l = (t : Episode) → Has t l → (c : ℕ) → Has c t → k c ≡ true

close_kept : (k : Set) (o : Episode) (l : List Episode) → ((c : ℕ) → Has c o → k c ≡ true) → Kept k l → Kept k (close o l)
close_kept k [] l f g t m c i = g t m c i
close_kept k (a ∷ o) l f g t (inl e) c i = f c (subst (Has c) e i)
close_kept k (a ∷ o) l f g t (inr m) c i = g t m c i

abbrev AllKept : Set → Walk → Type 0
AllKept k w = ((c : ℕ) → Has c w.0 → k c ≡ true) × Kept k w.1

step_kept : (k : Set) (p b : Bool) (x : ℕ) (w : Walk) → k x ≡ p → AllKept k w → AllKept k (step_by p b x w)
step_kept k true b x w e h = ((λ c m. ⊎_elim (λ q. ap k q ∙ e) (h.0 c) m), h.1)
step_kept k false true x w e h = ((λ c m. absurd m), close_kept k w.0 w.1 h.0 h.1)
step_kept k false false x w e h = h

walk_kept : (k b : Set) (t : Episode) → AllKept k (walk k b t)
walk_kept k b [] = ((λ c m. absurd m), λ t m. absurd m)
walk_kept k b (x ∷ t) = step_kept k (k x) (b x) x (walk k b t) refl (walk_kept k b t)

pub pieces_kept : (k b : Set) (u t : Episode) → Has t (pieces k b u) → (c : ℕ) → Has c t → k c ≡ true
pieces_kept k b u = close_kept k (walk k b u).0 (walk k b u).1 (walk_kept k b u).0 (walk_kept k b u).1

-- an episode of kept codes is one sub-episode, or none where it is empty
walk_whole : (k b : Set) (t : Episode) → ((c : ℕ) → Has c t → k c ≡ true) → walk k b t ≡ (t, [])
walk_whole k b [] h = refl
walk_whole k b (x ∷ t) h =
    ap (step_by (k x) (b x) x) (walk_whole k b t (λ c i. h c (inr i))) ∙ ap (λ (q : Bool). step_by q (b x) x (t, [])) (h x (inl refl))

pub pieces_whole : (k b : Set) (t : Episode) → ((c : ℕ) → Has c t → k c ≡ true) → (l : List Episode) → pieces k b t ++ l ≡ close t l
pieces_whole k b t h l = ap (λ (w : Walk). done w ++ l) (walk_whole k b t h) ∙ sym (close_append t [] l)
