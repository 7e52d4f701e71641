-- The groups of codes that belong together stand in one order, that of reach.
use mathlib.Core.Path.{◌≡◌, refl, sym, ◌∙◌, ap, subst}
use mathlib.Core.Logic.{◌⊎◌, inl, inr, ⊎_elim}
use mathlib.Core.List.{List, [], ◌∷◌}
use mathlib.Core.Bool.{Bool, true, false, not}
use Prim.Native.Nat.{ℕ, suc}
use lib.ListN.{length}
use borrow.Author.Tests.{not-true, not-false}
use Rattle.rules.specs.Words.{flat}
use Rattle.rules.specs.Mining.{Log, Rel, components, occurring, graph, reach, together, head_of, place_by, place, ordered, sequence_parts}
use Rattle.rules.proofs.BoolLaws.{bool_ext, bool_cases, not_both_lem, beq_true, beq_false, beq_sym, not_swap}
use Rattle.rules.proofs.ListLaws.{Has, has_append_left, has_append_right, flat_has, has_flat}
use Rattle.rules.proofs.Distinct.{Apart, apart_unique}
use Rattle.rules.proofs.Occurring.{occurring_distinct}
use Rattle.rules.proofs.Components.{Symmetric, On, part_in, components_apart, head_in, closed, constant}
use Rattle.rules.proofs.GraphLaws.{reach_trans}
use Rattle.rules.proofs.Joining.{InOrder, Transitive}

-- ---- putting parts in order

pub has_place : (r : Rel) (p : List ℕ) (qs : List (List ℕ)) (y : List ℕ) → Has y (place r p qs) → (y ≡ p) ⊎ Has y qs
has_place r p [] y m = m
has_place r p (q ∷ qs) y m = by (r (head_of p) (head_of q)) (has_place r p qs y) m
  where
    by : (b : Bool) → (Has y (place r p qs) → (y ≡ p) ⊎ Has y qs) → Has y (place_by b p q qs (place r p qs)) → (y ≡ p) ⊎ Has y (q ∷ qs)
    by true f k = k
    by false f (inl e) = inr (inl e)
    by false f (inr k) = ⊎_elim inl (λ j. inr (inr j)) (f k)

place_has : (r : Rel) (p : List ℕ) (qs : List (List ℕ)) (y : List ℕ) → (y ≡ p) ⊎ Has y qs → Has y (place r p qs)
place_has r p [] y m = m
place_has r p (q ∷ qs) y m = by (r (head_of p) (head_of q)) (place_has r p qs y) m
  where
    by : (b : Bool) → ((y ≡ p) ⊎ Has y qs → Has y (place r p qs)) → (y ≡ p) ⊎ Has y (q ∷ qs) → Has y (place_by b p q qs (place r p qs))
    by true f k = k
    by false f (inl e) = inr (f (inl e))
    by false f (inr k) = ⊎_elim inl (λ j. inr (f (inr j))) k

flat_place : (r : Rel) (p : List ℕ) (qs : List (List ℕ)) (c : ℕ) → Has c (flat (place r p qs)) → Has c p ⊎ Has c (flat qs)
flat_place r p qs c m =
    let k = has_flat c (place r p qs) m in
    ⊎_elim (λ e. inl (subst (Has c) e k.2)) (λ i. inr (flat_has c k.0 qs i k.2)) (has_place r p qs k.0 k.1)

apart_place : (r : Rel) (p : List ℕ) (qs : List (List ℕ)) → Apart (p ∷ qs) → Apart (place r p qs)
apart_place r p [] a = a
apart_place r p (q ∷ qs) a = by (r (head_of p) (head_of q)) (apart_place r p qs ((λ c i j. a.0 c i (has_append_right c q (flat qs) j)), a.1.1))
  where
    by : (b : Bool) → Apart (place r p qs) → Apart (place_by b p q qs (place r p qs))
    by true f = a
    by false f = ((λ c i j. ⊎_elim (λ k. a.0 c k (has_append_left c q (flat qs) i)) (λ k. a.1.0 c i k) (flat_place r p qs c j)), f)

pub ordered_has : (r : Rel) (ps : List (List ℕ)) (y : List ℕ) → Has y (ordered r ps) → Has y ps
ordered_has r [] y m = m
ordered_has r (p ∷ ps) y m = ⊎_elim inl (λ k. inr (ordered_has r ps y k)) (has_place r p (ordered r ps) y m)

pub has_ordered : (r : Rel) (ps : List (List ℕ)) (y : List ℕ) → Has y ps → Has y (ordered r ps)
has_ordered r [] y m = m
has_ordered r (p ∷ ps) y m = place_has r p (ordered r ps) y (⊎_elim inl (λ k. inr (has_ordered r ps y k)) m)

pub ordered_flat : (r : Rel) (ps : List (List ℕ)) (c : ℕ) → Has c (flat (ordered r ps)) → Has c (flat ps)
ordered_flat r ps c m = let k = has_flat c (ordered r ps) m in flat_has c k.0 ps (ordered_has r ps k.0 k.1) k.2

pub flat_ordered : (r : Rel) (ps : List (List ℕ)) (c : ℕ) → Has c (flat ps) → Has c (flat (ordered r ps))
flat_ordered r ps c m = let k = has_flat c ps m in flat_has c k.0 (ordered r ps) (has_ordered r ps k.0 k.1) k.2

length_place : (r : Rel) (p : List ℕ) (qs : List (List ℕ)) → length (place r p qs) ≡ suc (length qs)
length_place r p [] = refl
length_place r p (q ∷ qs) = by (r (head_of p) (head_of q)) (length_place r p qs)
  where
    by : (b : Bool) → length (place r p qs) ≡ suc (length qs) → length (place_by b p q qs (place r p qs)) ≡ suc (suc (length qs))
    by true e = refl
    by false e = ap suc e

pub length_ordered : (r : Rel) (ps : List (List ℕ)) → length (ordered r ps) ≡ length ps
length_ordered r [] = refl
length_ordered r (p ∷ ps) = length_place r p (ordered r ps) ∙ ap suc (length_ordered r ps)

pub apart_ordered : (r : Rel) (ps : List (List ℕ)) → Apart ps → Apart (ordered r ps)
apart_ordered r [] a = tt
apart_ordered r (p ∷ ps) a = apart_place r p (ordered r ps) ((λ c i j. a.0 c i (ordered_flat r ps c j)), apart_ordered r ps a.1)

-- ---- the groups of a transitive relation

-- every code of p is related to every code of q, and never the other way
abbrev pub Ahead : Rel → List ℕ → List ℕ → Type 0
Ahead r p q = (a b : ℕ) → Has a p → Has b q → (r a b ≡ true) × (r b a ≡ false)

pub together_sym : (r : Rel) → Symmetric (together r)
together_sym r a b h = sym (beq_sym (r a b) (r b a)) ∙ h

module _ (r : Rel) (tr : Transitive r) (cs : List ℕ) where
  abbrev Group : List ℕ → Type 0
  Group g = Has g (components (together r) cs)

  -- of two codes of different groups one reaches the other
  cross : (g : List ℕ) → Group g → (a b : ℕ) → Has a g → Has b cs → (Has b g → ⊥) → r a b ≡ not (r b a)
  cross g m a b i j n =
      ⊎_elim (λ (h : together r a b ≡ true). absurd (n (closed (together r) (together_sym r) cs g m a b i j h))) (λ (h : together r a b ≡ false). beq_false (r a b) (r b a) h)
      (bool_cases (together r a b))

  step_left : (g : List ℕ) → Group g → (b : ℕ) → Has b cs → (Has b g → ⊥) → (y z : ℕ) → Has y g → Has z g → together r y z ≡ true → r y b ≡ true → r z b ≡ true
  step_left g m b j n y z iy iz h e =
      ⊎_elim (λ (t : r z b ≡ true). t)
      (λ (f : r z b ≡ false).
      let bz : r b z ≡ true = not-false (r b z) (sym (cross g m z b iz j n) ∙ f) in
      let zy : r z y ≡ true = sym (beq_true (r y z) (r z y) h) ∙ tr y b z e bz in
      tr z y b zy e)
      (bool_cases (r z b))

  -- all of a group reach a code outside, or none
  left_on : (g : List ℕ) → Group g → (b : ℕ) → Has b cs → (Has b g → ⊥) → On (λ z. r z b) g
  left_on g m b j n =
      constant (together r) (λ z. r z b) cs g m
      (λ y z iy iz h. bool_ext (r y b) (r z b) (step_left g m b j n y z iy iz h) (step_left g m b j n z y iz iy (together_sym r y z h)))

  right_on : (g : List ℕ) → Group g → (b : ℕ) → Has b cs → (Has b g → ⊥) → On (λ z. r b z) g
  right_on g m b j n y z iy iz =
      let out : (x : ℕ) → Has x g → r b x ≡ not (r x b) = λ x i. not_swap (r x b) (r b x) (cross g m x b i j n) in
      out y iy ∙ ap not (left_on g m b j n y z iy iz) ∙ sym (out z iz)

  ahead : (p q : List ℕ) → Group p → Group q → ((c : ℕ) → Has c p → Has c q → ⊥) → r (head_of p) (head_of q) ≡ true → Ahead r p q
  ahead p q ip iq apart h a b i j =
      let hp = head_in (together r) cs p ip in
      let hq = head_in (together r) cs q iq in
      let jb = part_in (together r) cs q iq b j in
      let pb : r (head_of p) b ≡ true = right_on q iq (head_of p) (part_in (together r) cs p ip (head_of p) hp) (apart (head_of p) hp) b (head_of q) j hq ∙ h in
      let ab : r a b ≡ true = left_on p ip b jb (λ k. apart b k j) a (head_of p) i hp ∙ pb in
      (ab, not-true (r b a) (sym (cross p ip a b i jb (λ k. apart b k j)) ∙ ab))

  head_cases : (p q : List ℕ) → Group p → Group q → ((c : ℕ) → Has c p → Has c q → ⊥) → r (head_of p) (head_of q) ≡ not (r (head_of q) (head_of p))
  head_cases p q ip iq apart =
      let hq = head_in (together r) cs q iq in
      cross p ip (head_of p) (head_of q) (head_in (together r) cs p ip) (part_in (together r) cs q iq (head_of q) hq) (λ k. apart (head_of q) k hq)

  -- of two groups without a common code exactly one is ahead of the other
  total : (p q : List ℕ) → Group p → Group q → ((c : ℕ) → Has c p → Has c q → ⊥) → Ahead r p q ⊎ Ahead r q p
  total p q ip iq apart =
      ⊎_elim (λ (h : r (head_of p) (head_of q) ≡ true). inl (ahead p q ip iq apart h))
      (λ (h : r (head_of p) (head_of q) ≡ false).
      inr (ahead q p iq ip (λ c i j. apart c j i) (not-false (r (head_of q) (head_of p)) (sym (head_cases p q ip iq apart) ∙ h))))
      (bool_cases (r (head_of p) (head_of q)))

  abbrev Groups : List (List ℕ) → Type 0
  Groups ps = (p : List ℕ) → Has p ps → Group p

  ahead_flat : (p : List ℕ) (qs : List (List ℕ)) → ((q : List ℕ) → Has q qs → Ahead r p q) → (a b : ℕ) → Has a p → Has b (flat qs) → (r a b ≡ true) × (r b a ≡ false)
  ahead_flat p qs h a b i j = let k = has_flat b qs j in h k.0 k.1 a b i k.2

  -- where p is ahead of q, it is ahead of what q is ahead of
  ahead_on : (p q s : List ℕ) → Group p → Group q → Group s → ((c : ℕ) → Has c p → Has c s → ⊥) → Ahead r p q → Ahead r q s → Ahead r p s
  ahead_on p q s ip iq is apart pq qs =
      let hp = head_in (together r) cs p ip in
      let hq = head_in (together r) cs q iq in
      let hs = head_in (together r) cs s is in
      ahead p s ip is apart (tr (head_of p) (head_of q) (head_of s) (pq (head_of p) (head_of q) hp hq).0 (qs (head_of q) (head_of s) hq hs).0)

  place_order : (p : List ℕ) (qs : List (List ℕ)) → Groups (p ∷ qs) → Apart (p ∷ qs) → InOrder r qs → InOrder r (place r p qs)
  place_order p [] of a o = ((λ x y i j. absurd j), tt)
  place_order p (q ∷ qs) of a o =
      by (r (head_of p) (head_of q)) refl
      (place_order p qs (λ s m. of s (⊎_elim inl (λ k. inr (inr k)) m)) ((λ c i j. a.0 c i (has_append_right c q (flat qs) j)), a.1.1) o.1)
    where
      ip : Group p
      ip = of p (inl refl)

      iq : Group q
      iq = of q (inr (inl refl))

      pq_apart : (c : ℕ) → Has c p → Has c q → ⊥
      pq_apart c i j = a.0 c i (has_append_left c q (flat qs) j)

      behind : (s : List ℕ) → Has s qs → Ahead r q s
      behind s m x y i j = o.0 x y i (flat_has y s qs m j)

      by : (b : Bool) → r (head_of p) (head_of q) ≡ b → InOrder r (place r p qs) → InOrder r (place_by b p q qs (place r p qs))
      by true e f =
          let pq = ahead p q ip iq pq_apart e in (
            ahead_flat p (q ∷ qs)
                (λ s m. ⊎_elim (λ k. subst (Ahead r p) (sym k) pq)
                (λ k. ahead_on p q s ip iq (of s (inr (inr k))) (λ c i j. a.0 c i (has_append_right c q (flat qs) (flat_has c s qs k j))) pq (behind s k)) m),
            o,
          )
      by false e f =
          let qp = ahead q p iq ip (λ c i j. pq_apart c j i) (not-false (r (head_of q) (head_of p)) (sym (head_cases p q ip iq pq_apart) ∙ e)) in
          (ahead_flat q (place r p qs) (λ s m. ⊎_elim (λ k. subst (Ahead r q) (sym k) qp) (behind s) (has_place r p qs s m)), f)

  pub in_order : (ps : List (List ℕ)) → Groups ps → Apart ps → InOrder r (ordered r ps)
  in_order [] of a = tt
  in_order (p ∷ ps) of a =
      place_order p (ordered r ps) (λ s m. of s (⊎_elim inl (λ k. inr (ordered_has r ps s k)) m))
      ((λ c i j. a.0 c i (ordered_flat r ps c j)), apart_ordered r ps a.1) (in_order ps (λ s m. of s (inr m)) a.1)

module _ (m : ℕ) (l : Log) where
  -- THEOREM: of two different groups one is ahead of the other: all of its codes reach all of the other's, and none is reached
  pub groups_total : (p q : List ℕ) → Has p (components (together (reach (graph m l))) (occurring m l)) → Has q (components (together (reach (graph m l))) (occurring m l)) →
      (p ≡ q → ⊥) → Ahead (reach (graph m l)) p q ⊎ Ahead (reach (graph m l)) q p
  groups_total p q ip iq ne =
      let r = reach (graph m l) in
      let gs = components (together r) (occurring m l) in
      total r (reach_trans m l) (occurring m l) p q ip iq
      (λ c i j. ne (apart_unique gs (components_apart (together r) (occurring m l) (occurring_distinct m l)) p q c ip iq i j))

  -- THEOREM: and never both
  pub groups_one_way : (p q : List ℕ) → Has p (components (together (reach (graph m l))) (occurring m l)) → Has q (components (together (reach (graph m l))) (occurring m l)) →
      Ahead (reach (graph m l)) p q → Ahead (reach (graph m l)) q p → ⊥
  groups_one_way p q ip iq f b =
      let r = reach (graph m l) in
      let hp = head_in (together r) (occurring m l) p ip in
      let hq = head_in (together r) (occurring m l) q iq in
      not_both_lem (r (head_of p) (head_of q)) (f (head_of p) (head_of q) hp hq).0 (b (head_of q) (head_of p) hq hp).1

  -- THEOREM: the parts of a sequence stand in the order of reach
  pub sequence_order : InOrder (reach (graph m l)) (sequence_parts (graph m l))
  unfolding sequence_parts graph
  sequence_order =
      let r = reach (graph m l) in
      in_order r (reach_trans m l) (occurring m l) (components (together r) (occurring m l)) (λ p i. i) (components_apart (together r) (occurring m l) (occurring_distinct m l))
