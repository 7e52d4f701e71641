-- Runs: an episode that starts and ends in the body, and goes from a redo part only to itself or the body, is a loop of its runs.
use mathlib.Core.Path.{◌≡◌, refl, sym, ◌∙◌, ap, subst}
use mathlib.Core.Logic.{◌⊎◌, inl, inr, ⊎_elim}
use mathlib.Core.List.{List, [], ◌∷◌, ◌++◌, append_assoc, append-nil}
use mathlib.Core.Bool.{Bool, true, false}
use Prim.Native.Nat.{ℕ}
use Rattle.rules.specs.Words.{flat, push, mem}
use Rattle.rules.specs.Trees.{Looped, once, again}
use Rattle.rules.specs.Mining.{Episode, Rel, runs, add_to, starts_in, follows, last_of, project, is_empty}
use Rattle.rules.proofs.BoolLaws.{bool_cases, not_both_lem}
use Rattle.rules.proofs.ListLaws.{Has, has_mem, mem_has, mem_not, flat_has, has_keep}
use Rattle.rules.proofs.Distinct.{Apart, apart_unique}
use Rattle.rules.proofs.GraphLaws.{first_step, later_step}

add_to_flat : (a b : Bool) (x : ℕ) (rs : List Episode) → flat (add_to a b x rs) ≡ push a x (flat rs)
add_to_flat false b x rs = refl
add_to_flat true false x rs = refl
add_to_flat true true x [] = refl
add_to_flat true true x (r ∷ rs) = refl

-- THEOREM: the runs of an episode, joined, are its projection
pub runs_project : (p : List ℕ) (t : Episode) → flat (runs p t) ≡ project p t
unfolding project
runs_project p [] = refl
runs_project p (x ∷ t) = add_to_flat (mem x p) (starts_in p t) x (runs p t) ∙ ap (push (mem x p) x) (runs_project p t)

-- a run has codes of the part and of the episode
pub run_codes : (p : List ℕ) (t r : Episode) → Has r (runs p t) → (c : ℕ) → Has c r → Has c t × Has c p
unfolding project
run_codes p t r m c i =
    let k = has_keep (λ x. mem x p) c t (subst (Has c) (runs_project p t) (flat_has c r (runs p t) m i)) in (k.0, mem_has c p k.1)

add_to_full : (a b : Bool) (x : ℕ) (rs : List Episode) → ((r : Episode) → Has r rs → is_empty r ≡ false) → (r : Episode) → Has r (add_to a b x rs) → is_empty r ≡ false
add_to_full false b x rs h r m = h r m
add_to_full true false x rs h r (inl e) = rw e refl
add_to_full true false x rs h r (inr m) = h r m
add_to_full true true x [] h r (inl e) = rw e refl
add_to_full true true x [] h r (inr m) = absurd m
add_to_full true true x (s ∷ rs) h r (inl e) = rw e refl
add_to_full true true x (s ∷ rs) h r (inr m) = h r (inr m)

-- THEOREM: no run is empty
pub runs_full : (p : List ℕ) (t r : Episode) → Has r (runs p t) → is_empty r ≡ false
runs_full p [] r m = absurd m
runs_full p (x ∷ t) r m = add_to_full (mem x p) (starts_in p t) x (runs p t) (runs_full p t) r m

-- ---- a loop of blocks

-- some codes, all in p
abbrev pub Block : List ℕ → Episode → Type 0
Block p [] = ⊥
Block p (x ∷ u) = (c : ℕ) → Has c (x ∷ u) → Has c p

abbrev pub AnyBlock : List (List ℕ) → Episode → Type 0
AnyBlock ps v = (p : List ℕ) × Has p ps × Block p v

runs_past : (q : List ℕ) (u s : Episode) → ((c : ℕ) → Has c u → Has c q → ⊥) → runs q (u ++ s) ≡ runs q s
runs_past q [] s h = refl
runs_past q (x ∷ u) s h =
    ap (λ (b : Bool). add_to b (starts_in q (u ++ s)) x (runs q (u ++ s))) (mem_not x q (h x (inl refl))) ∙ runs_past q u s (λ c m. h c (inr m))

runs_block : (q : List ℕ) (u s : Episode) → Block q u → starts_in q s ≡ false → runs q (u ++ s) ≡ u ∷ runs q s
runs_block q [] s b n = absurd b
runs_block q (x ∷ []) s b n = λ i. add_to (has_mem x q (b x (inl refl)) i) (n i) x (runs q s)
runs_block q (x ∷ y ∷ u) s b n =
    let ih = runs_block q (y ∷ u) s (λ c m. b c (inr m)) n in
    λ i. add_to (has_mem x q (b x (inl refl)) i) (has_mem y q (b y (inr (inl refl))) i) x (ih i)

block_off : (p q : List ℕ) (v s : Episode) → Block p v → ((c : ℕ) → Has c p → Has c q → ⊥) → starts_in q (v ++ s) ≡ false
block_off p q [] s b n = absurd b
block_off p q (x ∷ v) s b n = mem_not x q (n x (b x (inl refl)))

block_has : (p : List ℕ) (v : Episode) → Block p v → (c : ℕ) → Has c v → Has c p
block_has p [] b c m = absurd m
block_has p (x ∷ v) b c m = b c m

block_some : (p : List ℕ) (v : Episode) → Block p v → (c : ℕ) × Has c v
block_some p [] b = absurd b
block_some p (x ∷ v) b = (x, inl refl)

module _ (body : List ℕ) (redos : List (List ℕ)) (apart : Apart (body ∷ redos)) where
  abbrev Blocks : Episode → Type 0
  Blocks w = Looped (Block body) (AnyBlock redos) w

  body_off : (p : List ℕ) → Has p redos → (c : ℕ) → Has c body → Has c p → ⊥
  body_off p m c i j = apart.0 c i (flat_has c p redos m j)

  begins : {w : Episode} → Blocks w → (q : List ℕ) → Has q redos → starts_in q w ≡ false
  begins (once {w = w} b) q m = subst (λ (x : Episode). starts_in q x ≡ false) (append-nil w) (block_off body q w [] b (body_off q m))
  begins (again {u = u} {v = v} {w = w} b r d) q m =
      subst (λ (x : Episode). starts_in q x ≡ false) (sym (append_assoc u v w)) (block_off body q u (v ++ w) b (body_off q m))

  module _ (u v w : Episode) (p : List ℕ) (bu : Block body u) (m : Has p redos) (bv : Block p v) (d : Blocks w) where
    body_runs : runs body (u ++ v ++ w) ≡ u ∷ runs body w
    body_runs =
        ap (runs body) (append_assoc u v w)
        ∙ runs_block body u (v ++ w) bu (block_off p body v w bv (λ c i j. body_off p m c j i))
        ∙ ap (◌∷◌ u) (runs_past body v w (λ c i j. body_off p m c j (block_has p v bv c i)))

    redo_runs : (q : List ℕ) → Has q redos → runs q (u ++ v ++ w) ≡ runs q (v ++ w)
    redo_runs q n = ap (runs q) (append_assoc u v w) ∙ runs_past q u (v ++ w) (λ c i j. body_off q n c (block_has body u bu c i) j)

    own_runs : runs p (u ++ v ++ w) ≡ v ∷ runs p w
    own_runs = redo_runs p m ∙ runs_block p v w bv (begins d p m)

    old_runs : (q : List ℕ) → Has q redos → (x : Episode) → Has x (runs q w) → Has x (runs q (u ++ v ++ w))
    old_runs q n x i =
        let c = block_some p v bv in
        ⊎_elim
        (λ (h : mem c.0 q ≡ true).
        let e : p ≡ q = apart_unique redos apart.1 p q c.0 m n (block_has p v bv c.0 c.1) (mem_has c.0 q h) in
        subst (λ (y : List ℕ). Has x (runs y (u ++ v ++ w))) e (subst (Has x) (sym own_runs) (inr (subst (λ (y : List ℕ). Has x (runs y w)) (sym e) i))))
        (λ (h : mem c.0 q ≡ false).
        subst (Has x)
        (sym
        (redo_runs q n
        ∙ runs_past q v w (λ y k j.
        let e : p ≡ q = apart_unique redos apart.1 p q y m n (block_has p v bv y k) j in
        not_both_lem (mem c.0 q) (has_mem c.0 q (subst (Has c.0) e (block_has p v bv c.0 c.1))) h))) i)
        (bool_cases (mem c.0 q))

  -- THEOREM: a loop of blocks is a loop of its runs
  pub looped_runs : (B R : Episode → Type 0) {t : Episode} → Looped (Block body) (AnyBlock redos) t →
      ((u : Episode) → Has u (runs body t) → B u) → ((p : List ℕ) (v : Episode) → Has p redos → Has v (runs p t) → R v) → Looped B R t
  looped_runs B R (once {w = w} b) hb hr =
      once (hb w (subst (Has w) (sym (ap (runs body) (sym (append-nil w)) ∙ runs_block body w [] b refl)) (inl refl)))
  looped_runs B R (again {u = u} {v = v} {w = w} bu r d) hb hr =
      let p = r.0 in
      again (hb u (subst (Has u) (sym (body_runs u v w p bu r.1 r.2 d)) (inl refl)))
      (hr p v r.1 (subst (Has v) (sym (own_runs u v w p bu r.1 r.2 d)) (inl refl)))
      (looped_runs B R d (λ x i. hb x (subst (Has x) (sym (body_runs u v w p bu r.1 r.2 d)) (inr i)))
      (λ q x n i. hr q x n (old_runs u v w p bu r.1 r.2 d q n x i)))

  prepend : (x : ℕ) {t : Episode} → Has x body → Blocks t → Blocks (x ∷ t)
  prepend x i (once {w = w} b) = once {w = x ∷ w} (λ c m. ⊎_elim (λ e. rw e i) (λ k. block_has body w b c k) m)
  prepend x i (again {u = u} {v = v} {w = w} b r d) = again {u = x ∷ u} {v = v} {w = w} (λ c m. ⊎_elim (λ e. rw e i) (λ k. block_has body u b c k) m) r d

  abbrev Rest : List ℕ → Episode → Type 0
  Rest p t = (v : Episode) × (w : Episode) × (t ≡ v ++ w) × Block p v × Blocks w

  -- e is the edges: from a redo part to itself or the body
  module _ (e : Rel) (cs : List ℕ) (sorts : (c : ℕ) → Has c cs → Has c body ⊎ ((p : List ℕ) × Has p redos × Has c p))
      (stay : (p : List ℕ) → Has p redos → (a b : ℕ) → Has a p → Has b cs → e a b ≡ true → Has b body ⊎ Has b p) where
    both : (x : ℕ) (t : Episode) → ((a b : ℕ) → follows a b (x ∷ t) ≡ true → e a b ≡ true) → ((c : ℕ) → Has c t → Has c cs) → Has (last_of x t) body →
        (Has x body → Blocks (x ∷ t)) × ((p : List ℕ) → Has p redos → Has x p → Rest p (x ∷ t))
    both x [] steps codes fin = ((λ i. once {w = x ∷ []} (λ c m. ⊎_elim (λ k. rw k i) (λ k. absurd k) m)), λ p m i. absurd (body_off p m x fin i))
    both x (y ∷ t) steps codes fin =
        let below = both y t (λ a b h. steps a b (later_step x y t a b h)) (λ c m. codes c (inr m)) fin in
        let xy : e x y ≡ true = steps x y (first_step x y t) in (
          (λ i. ⊎_elim (λ j. prepend x i (below.0 j))
              (λ k.
              let r = below.1 k.0 k.1 k.2 in
              subst (λ (w : Episode). Blocks w) (ap (◌∷◌ x) (sym r.2))
              (again {u = x ∷ []} {v = r.0} {w = r.1} (λ c m. ⊎_elim (λ q. rw q i) (λ q. absurd q) m) (k.0, k.1, r.3) r.4))
              (sorts y (codes y (inl refl)))),
          λ p m i. ⊎_elim
              (λ j. (x ∷ [], y ∷ t, refl, (λ c n. ⊎_elim (λ q. rw q i) (λ q. absurd q) n), below.0 j))
              (λ j. let r = below.1 p m j in (x ∷ r.0, r.1, ap (◌∷◌ x) r.2, (λ c n. ⊎_elim (λ q. rw q i) (λ q. block_has p r.0 r.3 c q) n), r.4))
              (stay p m x y i (codes y (inl refl)) xy),
        )

    -- THEOREM: an episode that starts and ends in the body is a loop of blocks
    pub blocks : (x : ℕ) (t : Episode) → ((a b : ℕ) → follows a b (x ∷ t) ≡ true → e a b ≡ true) → ((c : ℕ) → Has c t → Has c cs) →
        Has x body → Has (last_of x t) body → Looped (Block body) (AnyBlock redos) (x ∷ t)
    blocks x t steps codes begin fin = (both x t steps codes fin).0 begin
