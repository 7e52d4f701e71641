-- The events of a set, in their order, and cuts and interleavings of them.
use Prim.Native.Nat.{ℕ, suc, ◌≤◌}
use native.Mathlib.Omega.{arith}
use mathlib.Core.List.{List, [], ◌∷◌, ◌++◌}
use mathlib.Core.Path.{◌≡◌, refl, sym, ap, ap₂, ◌∙◌, subst}
use mathlib.Core.Logic.{◌⊎◌, inl, inr, ⊎_elim}
use mathlib.Core.Bool.{Bool, true, false, ◌||◌, not, false≢true}
use lib.ListN.{length, take, drop}
use Rattle.rules.specs.Words.{push, keep}
use Rattle.rules.specs.Trees.{Mixed, done, left, right}
use Rattle.rules.proofs.BoolLaws.{bool_cases, not_both_lem}
use Rattle.rules.proofs.ListLaws.{Has, keep_has, has_keep, all_has, has_all, nil_of}
use Rattle.judge_rows.specs.Rows.{clear}

-- every event of w is in T
abbrev pub Within : (ℕ → Bool) → List ℕ → Type 0
Within T w = (c : ℕ) → Has c w → T c ≡ true

module _ (S : ℕ → Bool) where
  pub keep_append : (u v : List ℕ) → keep S (u ++ v) ≡ keep S u ++ keep S v
  keep_append [] v = refl
  keep_append (c ∷ u) v = go (S c) (keep_append u v)
    where
      go : (b : Bool) → keep S (u ++ v) ≡ keep S u ++ keep S v → push b c (keep S (u ++ v)) ≡ push b c (keep S u) ++ keep S v
      go true e = ap (λ (l : List ℕ). c ∷ l) e
      go false e = e

  -- where the events of S are a joining, there is a cut
  pub keep_cut : (w u v : List ℕ) → keep S w ≡ u ++ v → (p : ℕ) × (p ≤ length w) × (keep S (take p w) ≡ u) × (keep S (drop p w) ≡ v)
  keep_cut w [] v e = (0, omega arith, refl, e)
  keep_cut [] (a ∷ u) v e = (0, omega arith, cc, cc)
  keep_cut (c ∷ w) (a ∷ u) v e = go (S c) refl (λ f. keep_cut w u v f) (λ f. keep_cut w (a ∷ u) v f) e
    where
      go : (b : Bool) → S c ≡ b
          → (keep S w ≡ u ++ v → (p : ℕ) × (p ≤ length w) × (keep S (take p w) ≡ u) × (keep S (drop p w) ≡ v))
          → (keep S w ≡ a ∷ (u ++ v) → (p : ℕ) × (p ≤ length w) × (keep S (take p w) ≡ a ∷ u) × (keep S (drop p w) ≡ v))
          → push b c (keep S w) ≡ a ∷ (u ++ v)
          → (p : ℕ) × (p ≤ suc (length w)) × (keep S (take p (c ∷ w)) ≡ a ∷ u) × (keep S (drop p (c ∷ w)) ≡ v)
      go true q f g e =
          let e₁ : c ≡ a = cc in
          let e₂ : keep S w ≡ u ++ v = cc in
          let t = f e₂ in
          (suc t.0, omega (arith, t.1), ap (λ (b : Bool). push b c (keep S (take t.0 w))) q ∙ ap₂ ◌∷◌ e₁ t.2, t.3)
      go false q f g e =
          let t = g e in
          (suc t.0, omega (arith, t.1), ap (λ (b : Bool). push b c (keep S (take t.0 w))) q ∙ t.2, t.3)

  -- no event of S
  pub clear_nil : (w : List ℕ) → clear S w ≡ true → keep S w ≡ []
  clear_nil w h = nil_of (keep S w) (λ c m. let k = has_keep S c w m in false≢true (sym (ap not k.1) ∙ all_has (λ x. not (S x)) c w h k.0))

  pub nil_clear : (w : List ℕ) → keep S w ≡ [] → clear S w ≡ true
  nil_clear w e = has_all (λ c. not (S c)) w (λ c m. ⊎_elim
      (λ (h : S c ≡ true). absurd (subst (Has c) e (keep_has S c w m h)))
      (λ (h : S c ≡ false). ap not h)
      (bool_cases (S c)))

  pub keep_within : (w : List ℕ) → Within S w → keep S w ≡ w
  keep_within [] h = refl
  keep_within (c ∷ w) h = ap (λ (b : Bool). push b c (keep S w)) (h c (inl refl)) ∙ ap (λ (l : List ℕ). c ∷ l) (keep_within w (λ x m. h x (inr m)))

-- sets that agree on the events
pub keep_on : (S T : ℕ → Bool) (w : List ℕ) → ((c : ℕ) → Has c w → S c ≡ T c) → keep S w ≡ keep T w
keep_on S T [] h = refl
keep_on S T (c ∷ w) h = ap₂ (λ (b : Bool) (l : List ℕ). push b c l) (h c (inl refl)) (keep_on S T w (λ x m. h x (inr m)))

-- ---- interleavings

pub mixed_has : {u v w : List ℕ} → Mixed u v w → (c : ℕ) → Has c w → Has c u ⊎ Has c v
mixed_has done c m = absurd m
mixed_has (left x) c (inl e) = inl (inl e)
mixed_has (left x) c (inr m) = ⊎_elim (λ k. inl (inr k)) (λ k. inr k) (mixed_has x c m)
mixed_has (right x) c (inl e) = inr (inl e)
mixed_has (right x) c (inr m) = ⊎_elim (λ k. inl k) (λ k. inr (inr k)) (mixed_has x c m)

pub mixed_left : {u v x w y : List ℕ} → Mixed u v x → Mixed x y w → (z : List ℕ) × Mixed v y z × Mixed u z w
mixed_left done done = ([], done, done)
mixed_left m (right {a = a} n) = let r = mixed_left m n in (a ∷ r.0, right r.1, right r.2)
mixed_left (left {a = a} m) (left n) = let r = mixed_left m n in (r.0, r.1, left r.2)
mixed_left (right {a = a} m) (left n) = let r = mixed_left m n in (a ∷ r.0, left r.1, right r.2)

pub mixed_right : {u v y z w : List ℕ} → Mixed v y z → Mixed u z w → (x : List ℕ) × Mixed u v x × Mixed x y w
mixed_right done done = ([], done, done)
mixed_right m (left {a = a} n) = let r = mixed_right m n in (a ∷ r.0, left r.1, left r.2)
mixed_right (left {a = a} m) (right n) = let r = mixed_right m n in (a ∷ r.0, right r.1, left r.2)
mixed_right (right {a = a} m) (right n) = let r = mixed_right m n in (r.0, r.1, right r.2)

module _ (S T : ℕ → Bool) (apart : (c : ℕ) → S c ≡ true → T c ≡ false) where
  -- the events of two sets with no code in common are an interleaving of those of each
  pub keep_mixed : (w : List ℕ) → Mixed (keep S w) (keep T w) (keep (λ c. S c || T c) w)
  keep_mixed [] = done
  keep_mixed (c ∷ w) = go (S c) (T c) (apart c) (keep_mixed w)
    where
      go : (s t : Bool) → (s ≡ true → t ≡ false) → Mixed (keep S w) (keep T w) (keep (λ c. S c || T c) w)
          → Mixed (push s c (keep S w)) (push t c (keep T w)) (push (s || t) c (keep (λ c. S c || T c) w))
      go true true h m = absurd (false≢true (sym (h refl)))
      go true false h m = left m
      go false true h m = right m
      go false false h m = m

  not_first : (c : ℕ) → T c ≡ true → S c ≡ false
  not_first c h = ⊎_elim (λ (e : S c ≡ true). not_both_lem (T c) h (apart c e)) (λ e. e) (bool_cases (S c))

  -- and the parts of an interleaving are its events of each
  pub mixed_keep : {u v w : List ℕ} → Mixed u v w → Within S u → Within T v → (keep S w ≡ u) × (keep T w ≡ v)
  mixed_keep done p q = (refl, refl)
  mixed_keep (left {a = a} {w = w} m) p q =
      let s = p a (inl refl) in
      let t = mixed_keep m (λ c k. p c (inr k)) q in
      (ap (λ (b : Bool). push b a (keep S w)) s ∙ ap (λ (l : List ℕ). a ∷ l) t.0, ap (λ (b : Bool). push b a (keep T w)) (apart a s) ∙ t.1)
  mixed_keep (right {a = a} {w = w} m) p q =
      let s = q a (inl refl) in
      let t = mixed_keep m p (λ c k. q c (inr k)) in
      (ap (λ (b : Bool). push b a (keep S w)) (not_first a s) ∙ t.0, ap (λ (b : Bool). push b a (keep T w)) s ∙ ap (λ (l : List ℕ). a ∷ l) t.1)
