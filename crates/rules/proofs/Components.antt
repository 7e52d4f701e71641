-- The components of a symmetric relation: they share out the codes, two codes are in one exactly if a chain of
-- related codes links them, and each is ascending.
use mathlib.Core.Path.{◌≡◌, refl, sym, ◌∙◌, ap, subst}
use mathlib.Core.Logic.{inl, inr, ⊎_elim}
use mathlib.Core.List.{List, [], ◌∷◌}
use mathlib.Core.Bool.{Bool, true, false, not, ◌||◌}
use Prim.Native.Nat.{ℕ}
use borrow.Author.Tests.{eq-eqb, ne_eqb, not-true}
use Rattle.rules.specs.Words.{any, push, keep, flat, mem}
use Rattle.rules.specs.Mining.{Rel, components, join, head_of}
use Rattle.rules.proofs.BoolLaws.{bool_cases, not_both_lem, bool_ext}
use Rattle.rules.proofs.ListLaws.{Has, any_has, has_any, has_keep, keep_has, has_append_cases, flat_has, has_flat, mem_has, has_mem, mem_not, mem_ext, keep_ext, keep_keep}
use Rattle.rules.proofs.Distinct.{Distinct, distinct_keep, Apart, apart_keep, flat_keep, kept_apart}

-- the codes of the components that x is related to
abbrev pub met : Rel → ℕ → List ℕ → List ℕ
met r x xs = flat (keep (any (r x)) (components r xs))

-- the component of x in x ∷ xs
abbrev pub merged : Rel → ℕ → List ℕ → List ℕ
merged r x xs = x ∷ keep (λ c. mem c (met r x xs)) xs

-- the other components
abbrev pub unmet : Rel → ℕ → List ℕ → List (List ℕ)
unmet r x xs = keep (λ g. not (any (r x) g)) (components r xs)

abbrev pub Symmetric : Rel → Type 0
Symmetric r = (a b : ℕ) → r a b ≡ true → r b a ≡ true

module _ (r : Rel) where
  pub components_are : (x : ℕ) (xs : List ℕ) → components r (x ∷ xs) ≡ merged r x xs ∷ unmet r x xs
  unfolding components join
  components_are x xs = refl

  -- THEOREM: the codes of the components are the codes
  pub parts_in : (cs : List ℕ) (c : ℕ) → Has c (flat (components r cs)) → Has c cs
  unfolding components join
  parts_in [] c m = m
  parts_in (x ∷ xs) c (inl e) = inl e
  parts_in (x ∷ xs) c (inr m) =
      inr
      (⊎_elim (λ k. (has_keep (λ y. mem y (met r x xs)) c xs k).0) (λ k. parts_in xs c (flat_keep (λ g. not (any (r x) g)) (components r xs) c k))
      (has_append_cases c (keep (λ y. mem y (met r x xs)) xs) (flat (unmet r x xs)) m))

  pub part_in : (cs g : List ℕ) → Has g (components r cs) → (c : ℕ) → Has c g → Has c cs
  part_in cs g m c i = parts_in cs c (flat_has c g (components r cs) m i)

  met_in : (x : ℕ) (xs : List ℕ) (c : ℕ) → Has c (met r x xs) → Has c xs
  met_in x xs c m = parts_in xs c (flat_keep (any (r x)) (components r xs) c m)

  -- the component of x is x and what it meets
  merged_met : (x : ℕ) (xs : List ℕ) (c : ℕ) → Has c (merged r x xs) → Has c (x ∷ met r x xs)
  merged_met x xs c (inl e) = inl e
  merged_met x xs c (inr m) = inr (mem_has c (met r x xs) (has_keep (λ y. mem y (met r x xs)) c xs m).1)

  met_merged : (x : ℕ) (xs : List ℕ) (c : ℕ) → Has c (x ∷ met r x xs) → Has c (merged r x xs)
  met_merged x xs c (inl e) = inl e
  met_merged x xs c (inr m) = inr (keep_has (λ y. mem y (met r x xs)) c xs (met_in x xs c m) (has_mem c (met r x xs) m))

  -- THEOREM: each code stands in a component
  pub covered : (cs : List ℕ) (c : ℕ) → Has c cs → (g : List ℕ) × Has g (components r cs) × Has c g
  unfolding components join
  covered [] c m = absurd m
  covered (x ∷ xs) c (inl e) = (_, inl refl, inl e)
  covered (x ∷ xs) c (inr m) =
      let k = covered xs c m in
      let g = k.0 in
      ⊎_elim
      (λ (t : any (r x) g ≡ true). (_, inl refl, met_merged x xs c (inr (flat_has c g (keep (any (r x)) (components r xs)) (keep_has (any (r x)) g (components r xs) k.1 t) k.2))))
      (λ (t : any (r x) g ≡ false). (g, inr (keep_has (λ h. not (any (r x) h)) g (components r xs) k.1 (ap not t)), k.2))
      (bool_cases (any (r x) g))

  pub parts_cover : (cs : List ℕ) (c : ℕ) → Has c cs → Has c (flat (components r cs))
  parts_cover cs c m = let k = covered cs c m in flat_has c k.0 (components r cs) k.1 k.2

  merged_apart : (x : ℕ) (xs : List ℕ) → (Has x xs → ⊥) → Apart (components r xs) → (c : ℕ) → Has c (x ∷ met r x xs) → Has c (flat (unmet r x xs)) → ⊥
  merged_apart x xs d below c (inl e) n = d (subst (λ (y : ℕ). Has y xs) e (parts_in xs c (flat_keep (λ g. not (any (r x) g)) (components r xs) c n)))
  merged_apart x xs d below c (inr m) n = kept_apart (any (r x)) (components r xs) below c m n

  -- THEOREM: no code stands in two components
  pub components_apart : (cs : List ℕ) → Distinct cs → Apart (components r cs)
  unfolding components join
  components_apart [] d = tt
  components_apart (x ∷ xs) d =
      let below = components_apart xs d.1 in
      ((λ c i j. merged_apart x xs d.0 below c (merged_met x xs c i) j), apart_keep (λ g. not (any (r x) g)) (components r xs) below)

  -- a component is not empty
  pub head_in : (cs g : List ℕ) → Has g (components r cs) → Has (head_of g) g
  unfolding components join
  head_in [] g m = absurd m
  head_in (x ∷ xs) g (inl e) = rw e (inl refl)
  head_in (x ∷ xs) g (inr m) = head_in xs g (has_keep (λ p. not (any (r x) p)) g (components r xs) m).0

-- some of the codes, in the order of the codes
abbrev pub Picked : List ℕ → List ℕ → Type 0
Picked cs g = g ≡ keep (λ c. mem c g) cs

pub picked_keep : (p : ℕ → Bool) (cs : List ℕ) → Picked cs (keep p cs)
picked_keep p cs =
    keep_ext p (λ c. mem c (keep p cs)) cs
    (λ c m. bool_ext (p c) (mem c (keep p cs)) (λ h. has_mem c (keep p cs) (keep_has p c cs m h)) (λ h. (has_keep p c cs (mem_has c (keep p cs) h)).1))

-- two picked lists with the same codes are the same
pub picked_same : (cs g h : List ℕ) → Picked cs g → Picked cs h → ((c : ℕ) → Has c g → Has c h) → ((c : ℕ) → Has c h → Has c g) → g ≡ h
picked_same cs g h p q f k = p ∙ keep_ext (λ c. mem c g) (λ c. mem c h) cs (λ c m. mem_ext c g h (f c) (k c)) ∙ sym q

pub picked_distinct : (cs g : List ℕ) → Distinct cs → Picked cs g → Distinct g
picked_distinct cs g d e = subst Distinct (sym e) (distinct_keep (λ c. mem c g) cs d)

-- what is picked from some of the codes is picked from the codes
pub picked_wider : (p : ℕ → Bool) (cs g : List ℕ) → Picked (keep p cs) g → Picked cs g
picked_wider p cs g e =
    e
    ∙ keep_keep p (λ c. mem c g) cs
    (λ c h. (has_keep p c cs (has_keep (λ x. mem x g) c (keep p cs) (subst (Has c) e (mem_has c g h))).0).1)

merged_keep : (r : Rel) (x : ℕ) (xs : List ℕ) → (Has x xs → ⊥) → merged r x xs ≡ keep (λ c. mem c (x ∷ met r x xs)) (x ∷ xs)
merged_keep r x xs d =
    let others : keep (λ c. mem c (met r x xs)) xs ≡ keep (λ c. mem c (x ∷ met r x xs)) xs =
    keep_ext (λ c. mem c (met r x xs)) (λ c. mem c (x ∷ met r x xs)) xs
    (λ c m. ap (λ (b : Bool). b || mem c (met r x xs)) (sym (ne_eqb c x (λ e. d (subst (λ (y : ℕ). Has y xs) e m))))) in
    λ i. push (sym (eq-eqb x x refl) i || mem x (met r x xs)) x (others i)

-- THEOREM: each component is ascending: those of the codes that it has, in the order of the codes
pub components_picked : (r : Rel) (cs : List ℕ) → Distinct cs → (g : List ℕ) → Has g (components r cs) → Picked cs g
unfolding components join
components_picked r [] d g m = absurd m
components_picked r (x ∷ xs) d g (inl e) =
    subst (Picked (x ∷ xs)) (sym (e ∙ merged_keep r x xs d.0)) (picked_keep (λ c. mem c (x ∷ met r x xs)) (x ∷ xs))
components_picked r (x ∷ xs) d g (inr m) =
    let k = (has_keep (λ p. not (any (r x) p)) g (components r xs) m).0 in
    components_picked r xs d.1 g k ∙ ap (λ (b : Bool). push b x (keep (λ c. mem c g) xs)) (sym (mem_not x g (λ i. d.0 (part_in r xs g k x i))))

-- a part has what its codes are related to
abbrev pub Closed : Rel → List ℕ → List (List ℕ) → Type 0
Closed r cs gs = (g : List ℕ) → Has g gs → (a b : ℕ) → Has a g → Has b cs → r a b ≡ true → Has b g

module _ (r : Rel) (s : Symmetric r) where
  merged_closed : (x : ℕ) (xs : List ℕ) → Closed r xs (components r xs) → (a b : ℕ) → Has a (x ∷ met r x xs) → Has b (x ∷ xs) → r a b ≡ true → Has b (x ∷ met r x xs)
  merged_closed x xs below a b i (inl e) h = inl e
  merged_closed x xs below a b (inl e) (inr j) h =
      let k = covered r xs b j in
      inr
      (flat_has b k.0 (keep (any (r x)) (components r xs))
      (keep_has (any (r x)) k.0 (components r xs) k.1 (any_has (r x) b k.0 k.2 (rw e at h))) k.2)
  merged_closed x xs below a b (inr i) (inr j) h =
      let k = has_flat a (keep (any (r x)) (components r xs)) i in
      inr
      (flat_has b k.0 (keep (any (r x)) (components r xs)) k.1
      (below k.0 (has_keep (any (r x)) k.0 (components r xs) k.1).0 a b k.2 j h))

  -- THEOREM: a component has what its codes are related to
  pub closed : (cs : List ℕ) → Closed r cs (components r cs)
  unfolding components join
  closed [] g m a b i j h = absurd m
  closed (x ∷ xs) g (inl e) a b i j h =
      subst (Has b) (sym e) (met_merged r x xs b (merged_closed x xs (closed xs) a b (merged_met r x xs a (subst (Has a) e i)) j h))
  closed (x ∷ xs) g (inr m) a b i (inl e) h =
      let k = has_keep (λ p. not (any (r x) p)) g (components r xs) m in
      not_both_lem (any (r x) g) (any_has (r x) a g i (s a x (rw e at h))) (not-true (any (r x) g) k.1)
  closed (x ∷ xs) g (inr m) a b i (inr j) h =
      closed xs g (has_keep (λ k. not (any (r x) k)) g (components r xs) m).0 a b i j h

-- a test that does not change along a relation
abbrev pub Along : Rel → (ℕ → Bool) → List ℕ → Type 0
Along r t g = (a b : ℕ) → Has a g → Has b g → r a b ≡ true → t a ≡ t b

-- a test that is constant
abbrev pub On : (ℕ → Bool) → List ℕ → Type 0
On t g = (a b : ℕ) → Has a g → Has b g → t a ≡ t b

merged_constant : (r : Rel) (t : ℕ → Bool) (x : ℕ) (gs : List (List ℕ)) → ((g : List ℕ) → Has g gs → Along r t g → On t g) →
    Along r t (x ∷ flat (keep (any (r x)) gs)) → (a : ℕ) → Has a (x ∷ flat (keep (any (r x)) gs)) → t x ≡ t a
merged_constant r t x gs below h a (inl e) = sym (ap t e)
merged_constant r t x gs below h a (inr i) =
    let k = has_flat a (keep (any (r x)) gs) i in
    let g = k.0 in
    let q = has_keep (any (r x)) g gs k.1 in
    let y = has_any (r x) g q.1 in
    h x y.0 (inl refl) (inr (flat_has y.0 g (keep (any (r x)) gs) k.1 y.1)) y.2
    ∙ below g q.0 (λ c d ic id. h c d (inr (flat_has c g (keep (any (r x)) gs) k.1 ic)) (inr (flat_has d g (keep (any (r x)) gs) k.1 id))) y.0 a y.1 k.2

-- THEOREM: what is constant along the relation is constant on each component
pub constant : (r : Rel) (t : ℕ → Bool) (cs g : List ℕ) → Has g (components r cs) → Along r t g → On t g
unfolding components join
constant r t [] g m h a b i j = absurd m
constant r t (x ∷ xs) g (inr m) h a b i j = constant r t xs g (has_keep (λ p. not (any (r x) p)) g (components r xs) m).0 h a b i j
constant r t (x ∷ xs) g (inl e) h a b i j =
    let h' : Along r t (x ∷ met r x xs) = λ c d ic id. subst (Along r t) e h c d (met_merged r x xs c ic) (met_merged r x xs d id) in
    sym (merged_constant r t x (components r xs) (constant r t xs) h' a (merged_met r x xs a (subst (Has a) e i)))
    ∙ merged_constant r t x (components r xs) (constant r t xs) h' b (merged_met r x xs b (subst (Has b) e j))

-- a chain of related codes from a to b
pub data Linked (r : Rel) (cs : List ℕ) : ℕ → ℕ → Type 0 where
  here : {a : ℕ} → Has a cs → Linked r cs a a
  step : {a b c : ℕ} → Has a cs → r a b ≡ true → Linked r cs b c → Linked r cs a c

pub linked_in : {r : Rel} {cs : List ℕ} {a b : ℕ} → Linked r cs a b → Has a cs
linked_in (here i) = i
linked_in (step i h k) = i

linked_join : {r : Rel} {cs : List ℕ} {a b c : ℕ} → Linked r cs a b → Linked r cs b c → Linked r cs a c
linked_join (here i) d = d
linked_join (step i h k) d = step i h (linked_join k d)

linked_back : {r : Rel} {cs : List ℕ} {a b : ℕ} → Symmetric r → Linked r cs a b → Linked r cs b a
linked_back s (here i) = here i
linked_back s (step {a = a} {b = b} i h k) = linked_join (linked_back s k) (step (linked_in k) (s a b h) (here i))

linked_wider : {r : Rel} {cs : List ℕ} (x : ℕ) {a b : ℕ} → Linked r cs a b → Linked r (x ∷ cs) a b
linked_wider x (here i) = here (inr i)
linked_wider x (step i h k) = step (inr i) h (linked_wider x k)

module _ (r : Rel) (s : Symmetric r) where
  merged_linked : (x : ℕ) (xs : List ℕ) → ((g : List ℕ) → Has g (components r xs) → (a b : ℕ) → Has a g → Has b g → Linked r xs a b) →
      (a : ℕ) → Has a (x ∷ met r x xs) → Linked r (x ∷ xs) x a
  merged_linked x xs below a (inl e) = subst (Linked r (x ∷ xs) x) (sym e) (here (inl refl))
  merged_linked x xs below a (inr i) =
      let k = has_flat a (keep (any (r x)) (components r xs)) i in
      let q = has_keep (any (r x)) k.0 (components r xs) k.1 in
      let y = has_any (r x) k.0 q.1 in
      step (inl refl) y.2 (linked_wider x (below k.0 q.0 y.0 a y.1 k.2))

  -- THEOREM: two codes of a component are linked by a chain of related codes
  pub components_linked : (cs g : List ℕ) → Has g (components r cs) → (a b : ℕ) → Has a g → Has b g → Linked r cs a b
  unfolding components join
  components_linked [] g m a b i j = absurd m
  components_linked (x ∷ xs) g (inl e) a b i j =
      let to : (c : ℕ) → Has c g → Linked r (x ∷ xs) x c = λ c k. merged_linked x xs (components_linked xs) c (merged_met r x xs c (subst (Has c) e k)) in
      linked_join (linked_back s (to a i)) (to b j)
  components_linked (x ∷ xs) g (inr m) a b i j =
      linked_wider x (components_linked xs g (has_keep (λ p. not (any (r x) p)) g (components r xs) m).0 a b i j)

  -- THEOREM: and a code that is so linked to a code of a component is in it
  pub linked_component : (cs g : List ℕ) → Has g (components r cs) → {a b : ℕ} → Linked r cs a b → Has a g → Has b g
  linked_component cs g m (here i) j = j
  linked_component cs g m (step {a = a} {b = b} i h k) j = linked_component cs g m k (closed r s cs g m a b j (linked_in k) h)
