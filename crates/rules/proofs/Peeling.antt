-- The components of some of the codes are those of the components that have them: how a program peels them off one by one.
use mathlib.Core.Path.{◌≡◌, refl, sym, ◌∙◌, ap}
use mathlib.Core.Logic.{inl, inr, ⊎_elim}
use mathlib.Core.List.{List, [], ◌∷◌}
use mathlib.Core.Bool.{Bool, true, false, not, ◌&&◌, ◌||◌}
use Prim.Native.Nat.{ℕ}
use Rattle.rules.specs.Words.{any, push, keep, flat, mem}
use Rattle.rules.specs.Mining.{Rel, components, join}
use Rattle.rules.proofs.BoolLaws.{bool_cases, not_both_lem, and_comm, and_drop}
use Rattle.rules.proofs.ListLaws.{Has, any_has, has_any, any_false, has_keep, has_flat, mem_has, keep_keep, keep_both, keep_ext}
use Rattle.rules.proofs.Components.{met, merged, unmet, part_in, constant}

-- a test that does not change along the relation
abbrev pub Steady : Rel → (ℕ → Bool) → List ℕ → Type 0
Steady r q cs = (a b : ℕ) → Has a cs → Has b cs → r a b ≡ true → q a ≡ q b

module _ (r : Rel) (q : ℕ → Bool) (x : ℕ) (xs : List ℕ) (st : Steady r q (x ∷ xs)) where
  abbrev touched : List ℕ → Bool
  touched g = any (r x) g

  touch : (g : List ℕ) → Has g (components r xs) → touched g ≡ true → (y : ℕ) → Has y g → q y ≡ q x
  touch g m t y i =
      let z = has_any (r x) g t in
      let code : (c : ℕ) → Has c g → Has c xs = part_in r xs g m in
      constant r q xs g m (λ a b ia ib h. st a b (inr (code a ia)) (inr (code b ib)) h) y z.0 i z.1
      ∙ sym (st x z.0 (inl refl) (inr (code z.0 z.1)) z.2)

  met_touch : (y : ℕ) → Has y (met r x xs) → q y ≡ q x
  met_touch y i =
      let k = has_flat y (keep touched (components r xs)) i in
      let m = has_keep touched k.0 (components r xs) k.1 in
      touch k.0 m.0 m.1 y k.2

  in_touched : q x ≡ true → keep touched (keep (any q) (components r xs)) ≡ keep touched (components r xs)
  in_touched e =
      keep_both touched (any q) (components r xs)
      ∙ keep_ext (λ g. any q g && touched g) touched (components r xs)
      (λ g m. and_drop (any q g) (touched g) (λ t. let z = has_any (r x) g t in any_has q z.0 g z.1 (touch g m t z.0 z.1 ∙ e)))

  in_merged : q x ≡ true → keep (λ c. mem c (met r x xs)) (keep q xs) ≡ keep (λ c. mem c (met r x xs)) xs
  in_merged e = keep_keep q (λ c. mem c (met r x xs)) xs (λ c h. met_touch c (mem_has c (met r x xs) h) ∙ e)

  swapped : keep (λ g. not (touched g)) (keep (any q) (components r xs)) ≡ keep (any q) (unmet r x xs)
  swapped =
      keep_both (λ g. not (touched g)) (any q) (components r xs)
      ∙ keep_ext (λ g. any q g && not (touched g)) (λ g. not (touched g) && any q g) (components r xs) (λ g m. and_comm (any q g) (not (touched g)))
      ∙ sym (keep_both (any q) (λ g. not (touched g)) (components r xs))

  off_merged : q x ≡ false → any q (keep (λ c. mem c (met r x xs)) xs) ≡ false
  off_merged e =
      any_false q (keep (λ c. mem c (met r x xs)) xs)
      (λ y i. met_touch y (mem_has y (met r x xs) (has_keep (λ c. mem c (met r x xs)) y xs i).1) ∙ e)

  off_rest : q x ≡ false → keep (any q) (unmet r x xs) ≡ keep (any q) (components r xs)
  off_rest e =
      keep_both (any q) (λ g. not (touched g)) (components r xs)
      ∙ keep_ext (λ g. not (touched g) && any q g) (any q) (components r xs)
      (λ g m. and_drop (not (touched g)) (any q g) (λ h.
      let z = has_any q g h in
      ⊎_elim (λ (t : touched g ≡ true). not_both_lem (q z.0) z.2 (touch g m t z.0 z.1 ∙ e)) (λ (t : touched g ≡ false). ap not t) (bool_cases (touched g))))

  step_in : (b : Bool) → q x ≡ b → components r (keep q xs) ≡ keep (any q) (components r xs) →
      components r (push b x (keep q xs)) ≡ keep (any q) (join r x xs (components r xs))
  unfolding components join
  step_in true e ih =
      ap (join r x (keep q xs)) ih
      ∙ (λ i. (x ∷ keep (λ c. mem c (flat (in_touched e i))) (keep q xs)) ∷ swapped i)
      ∙ (λ i. (x ∷ in_merged e i) ∷ keep (any q) (unmet r x xs))
      ∙ ap (λ (b : Bool). push (b || any q (keep (λ c. mem c (met r x xs)) xs)) (merged r x xs) (keep (any q) (unmet r x xs))) (sym e)
  step_in false e ih =
      ih
      ∙ sym (off_rest e)
      ∙ sym (λ i. push (e i || off_merged e i) (merged r x xs) (keep (any q) (unmet r x xs)))

-- THEOREM: the components of the codes that pass a test which does not change along the relation are the components with such a code
pub removed : (r : Rel) (q : ℕ → Bool) (cs : List ℕ) → Steady r q cs → components r (keep q cs) ≡ keep (any q) (components r cs)
unfolding components
removed r q [] st = refl
removed r q (x ∷ xs) st = step_in r q x xs st (q x) refl (removed r q xs (λ a b i j. st a b (inr i) (inr j)))
