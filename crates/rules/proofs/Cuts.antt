-- Cuts of a log by choice, sequence and loop: their parts share out the codes that occur.
use mathlib.Core.Path.{◌≡◌, refl, sym, ap, subst}
use mathlib.Core.Logic.{◌⊎◌, inl, inr, ⊎_elim}
use mathlib.Core.List.{List, [], ◌∷◌}
use mathlib.Core.Bool.{true, false, not}
use Prim.Native.Nat.{ℕ}
use borrow.Author.Tests.{eq-eqb, not-true}
use Rattle.rules.specs.Words.{any, all, keep, flat, mem}
use Rattle.rules.specs.Mining.{Episode, Log, Rel, components, occurring, graph, reach, either, together, choice_parts, sequence_parts, loop_parts, body_part, redo_parts, is_redo, on_border, starts_with, ends_with, last_of, follows}
use Rattle.rules.proofs.BoolLaws.{bool_cases, not_both_lem, or_left, or_right, or_cases}
use Rattle.rules.proofs.ListLaws.{Has, any_has, has_any, has_all, has_keep, keep_has, has_append_left, has_append_right, has_append_cases, flat_has, has_flat, mem_has, has_mem}
use Rattle.rules.proofs.Distinct.{Distinct, Apart, apart_unique, distinct_keep, apart_keep}
use Rattle.rules.proofs.Occurring.{Below, code_in, occurring_distinct}
use Rattle.rules.proofs.Components.{Symmetric, Picked, picked_keep, picked_distinct, picked_wider, parts_in, parts_cover, part_in, covered, components_apart, components_picked, head_in, closed}
use Rattle.rules.proofs.GraphLaws.{step_edge, first_step, later_step, last_has}
use Rattle.rules.proofs.Order.{ordered_has, ordered_flat, flat_ordered, apart_ordered}

-- parts share out the codes: each code is in exactly one part, no part is empty, each part is ascending
pub record Parting (cs : List ℕ) (ps : List (List ℕ)) : Type 0 where
  pub apart : Apart ps
  pub covers : (c : ℕ) → Has c cs → Has c (flat ps)
  pub inside : (c : ℕ) → Has c (flat ps) → Has c cs
  pub some : (p : List ℕ) → Has p ps → (c : ℕ) × Has c p
  pub picked : (p : List ℕ) → Has p ps → Picked cs p

pub parting_distinct : (cs : List ℕ) (ps : List (List ℕ)) → Distinct cs → Parting cs ps → (p : List ℕ) → Has p ps → Distinct p
parting_distinct cs ps d k p i = picked_distinct cs p d (k.picked p i)

pub components_parting : (r : Rel) (cs : List ℕ) → Distinct cs → Parting cs (components r cs)
components_parting r cs d =
    record {
      apart = components_apart r cs d;
      covers = parts_cover r cs;
      inside = parts_in r cs;
      some = λ p i. (_, head_in r cs p i);
      picked = components_picked r cs d;
    }

-- two parts or more
abbrev pub Two : List (List ℕ) → Type 0
Two [] = ⊥
Two (p ∷ []) = ⊥
Two (p ∷ q ∷ ps) = Unit {0}

pub either_sym : (e : Rel) → Symmetric (either e)
either_sym e a b h = ⊎_elim (or_right (e b a) (e a b)) (or_left (e b a) (e a b)) (or_cases (e a b) (e b a) h)

module _ (m : ℕ) (l : Log) where
  -- THEOREM: the parts of a choice share out the codes
  pub choice_parting : Parting (occurring m l) (choice_parts (graph m l))
  unfolding choice_parts graph
  choice_parting = components_parting (either (graph m l).edge) (occurring m l) (occurring_distinct m l)

  -- THEOREM: the parts of a sequence share out the codes
  pub sequence_parting : Parting (occurring m l) (sequence_parts (graph m l))
  unfolding sequence_parts graph
  sequence_parting =
      let r = reach (graph m l) in
      let gs = components (together r) (occurring m l) in
      let k = components_parting (together r) (occurring m l) (occurring_distinct m l) in
      record {
        apart = apart_ordered r gs k.apart;
        covers = λ c i. flat_ordered r gs c (k.covers c i);
        inside = λ c i. k.inside c (ordered_flat r gs c i);
        some = λ p i. k.some p (ordered_has r gs p i);
        picked = λ p i. k.picked p (ordered_has r gs p i);
      }

  -- ---- the parts of a loop

  -- the codes without the starts and ends
  unfoldable pub rest : List ℕ
  rest = keep (λ a. not (on_border (graph m l) a)) (occurring m l)

  pub redo_component : (p : List ℕ) → Has p (redo_parts (graph m l)) → Has p (components (either (graph m l).edge) rest)
  unfolding redo_parts graph rest
  redo_component p i = (has_keep (is_redo (graph m l) (keep (on_border (graph m l)) (occurring m l))) p (components (either (graph m l).edge) rest) i).0

  pub redo_rest : (p : List ℕ) → Has p (redo_parts (graph m l)) → (c : ℕ) → Has c p → Has c (occurring m l) × (on_border (graph m l) c ≡ false)
  unfolding rest
  redo_rest p i c j =
      let k = has_keep (λ a. not (on_border (graph m l) a)) c (occurring m l) (part_in (either (graph m l).edge) rest p (redo_component p i) c j) in
      (k.0, not-true (on_border (graph m l) c) k.1)

  redo_apart : Apart (redo_parts (graph m l))
  unfolding redo_parts graph rest
  redo_apart =
      apart_keep (is_redo (graph m l) (keep (on_border (graph m l)) (occurring m l))) (components (either (graph m l).edge) rest)
      (components_apart (either (graph m l).edge) rest (distinct_keep (λ a. not (on_border (graph m l) a)) (occurring m l) (occurring_distinct m l)))

  redo_picked : (p : List ℕ) → Has p (redo_parts (graph m l)) → Picked (occurring m l) p
  unfolding rest
  redo_picked p i =
      picked_wider (λ a. not (on_border (graph m l) a)) (occurring m l) p
      (components_picked (either (graph m l).edge) rest (distinct_keep (λ a. not (on_border (graph m l) a)) (occurring m l) (occurring_distinct m l)) p (redo_component p i))

  pub body_code : (c : ℕ) → Has c (body_part (graph m l)) → Has c (occurring m l) × (any (mem c) (redo_parts (graph m l)) ≡ false)
  unfolding body_part graph
  body_code c i =
      let k = has_keep (λ a. not (any (mem a) (redo_parts (graph m l)))) c (occurring m l) i in
      (k.0, not-true (any (mem c) (redo_parts (graph m l))) k.1)

  body_picked : Picked (occurring m l) (body_part (graph m l))
  unfolding body_part graph
  body_picked = picked_keep (λ a. not (any (mem a) (redo_parts (graph m l)))) (occurring m l)

  pub loop_apart : Apart (body_part (graph m l) ∷ redo_parts (graph m l))
  loop_apart =
      let ps = redo_parts (graph m l) in (
        (λ c i j.
            let q = has_flat c ps j in
            not_both_lem (any (mem c) ps) (any_has (mem c) q.0 ps q.1 (has_mem c q.0 q.2)) (body_code c i).1),
        redo_apart,
      )

  -- a code is in the body or in a redo part
  pub loop_sorts : (c : ℕ) → Has c (occurring m l) → Has c (body_part (graph m l)) ⊎ ((p : List ℕ) × Has p (redo_parts (graph m l)) × Has c p)
  unfolding body_part graph
  loop_sorts c i =
      let ps = redo_parts (graph m l) in
      ⊎_elim (λ (h : any (mem c) ps ≡ true). let q = has_any (mem c) ps h in inr (q.0, q.1, mem_has c q.0 q.2))
      (λ (h : any (mem c) ps ≡ false). inl (keep_has (λ a. not (any (mem a) ps)) c (occurring m l) i (ap not h)))
      (bool_cases (any (mem c) ps))

  -- starts and ends are in the body
  pub border_body : (c : ℕ) → Has c (occurring m l) → on_border (graph m l) c ≡ true → Has c (body_part (graph m l))
  border_body c i h =
      ⊎_elim (λ j. j) (λ q. not_both_lem (on_border (graph m l) c) h (redo_rest q.0 q.1 c q.2).1) (loop_sorts c i)

  -- an edge from a redo part leads to itself or the body
  pub loop_stays : (p : List ℕ) → Has p (redo_parts (graph m l)) → (a b : ℕ) → Has a p → Has b (occurring m l) → (graph m l).edge a b ≡ true → Has b (body_part (graph m l)) ⊎ Has b p
  unfolding rest
  loop_stays p i a b ia ib h =
      let g = graph m l in
      ⊎_elim inl
      (λ q.
      inr
      (closed (either g.edge) (either_sym g.edge) rest p (redo_component p i) a b ia
      (keep_has (λ x. not (on_border g x)) b (occurring m l) ib (ap not (redo_rest q.0 q.1 b q.2).1)) (or_left (g.edge a b) (g.edge b a) h)))
      (loop_sorts b ib)

  start_border : (x : ℕ) (t : Episode) → Has (x ∷ t) l → on_border (graph m l) x ≡ true
  unfolding graph
  start_border x t i = or_left (any (starts_with x) l) (any (ends_with x) l) (any_has (starts_with x) (x ∷ t) l i (eq-eqb x x refl))

  end_border : (x : ℕ) (t : Episode) → Has (x ∷ t) l → on_border (graph m l) (last_of x t) ≡ true
  unfolding graph
  end_border x t i =
      let z = last_of x t in or_right (any (starts_with z) l) (any (ends_with z) l) (any_has (ends_with z) (x ∷ t) l i (eq-eqb z z refl))

  pub start_body : Below m l → (x : ℕ) (t : Episode) → Has (x ∷ t) l → Has x (body_part (graph m l))
  start_body s x t i = border_body x (code_in m l s (x ∷ t) i x (inl refl)) (start_border x t i)

  pub end_body : Below m l → (x : ℕ) (t : Episode) → Has (x ∷ t) l → Has (last_of x t) (body_part (graph m l))
  end_body s x t i = border_body (last_of x t) (code_in m l s (x ∷ t) i (last_of x t) (last_has x t)) (end_border x t i)

  -- THEOREM: the body and the redo parts of a loop share out the codes, where the body has one
  pub loop_parting : (c : ℕ) → Has c (body_part (graph m l)) → Parting (occurring m l) (loop_parts (graph m l))
  unfolding loop_parts
  loop_parting c i =
      let body = body_part (graph m l) in
      let redos = redo_parts (graph m l) in
      record {
        apart = loop_apart;
        covers = λ x j. ⊎_elim (has_append_left x body (flat redos)) (λ q. has_append_right x body (flat redos) (flat_has x q.0 redos q.1 q.2)) (loop_sorts x j);
        inside = λ x j. ⊎_elim (λ k. (body_code x k).0) (λ k. let q = has_flat x redos k in (redo_rest q.0 q.1 x q.2).0) (has_append_cases x body (flat redos) j);
        some = λ p j. ⊎_elim (λ e. (c, subst (Has c) (sym e) i)) (λ k. (_, head_in (either (graph m l).edge) rest p (redo_component p k))) j;
        picked = λ p j. ⊎_elim (λ e. subst (Picked (occurring m l)) (sym e) body_picked) (redo_picked p) j;
      }

  -- ---- choice

  -- an episode that begins in a closed part stays there
  stays : (g : List ℕ) → ((a b : ℕ) → Has a g → Has b (occurring m l) → either (graph m l).edge a b ≡ true → Has b g) →
      (x : ℕ) (t : Episode) → ((a b : ℕ) → follows a b (x ∷ t) ≡ true → either (graph m l).edge a b ≡ true) → ((c : ℕ) → Has c t → Has c (occurring m l)) →
      Has x g → (c : ℕ) → Has c (x ∷ t) → Has c g
  stays g shut x [] steps codes i c (inl e) = rw e i
  stays g shut x [] steps codes i c (inr j) = absurd j
  stays g shut x (y ∷ t) steps codes i c (inl e) = rw e i
  stays g shut x (y ∷ t) steps codes i c (inr j) =
      stays g shut y t (λ a b h. steps a b (later_step x y t a b h)) (λ d k. codes d (inr k)) (shut x y i (codes y (inl refl)) (steps x y (first_step x y t))) c j

  -- THEOREM: an episode that has a code of a choice's part lies wholly in it: none crosses
  pub choice_whole : Below m l → (p : List ℕ) → Has p (choice_parts (graph m l)) → (t : Episode) → Has t l → (c : ℕ) → Has c t → Has c p → all (λ x. mem x p) t ≡ true
  unfolding choice_parts graph
  choice_whole s p ip [] i c j k = absurd j
  choice_whole s p ip (x ∷ t) i c j k =
      let e = (graph m l).edge in
      let codes = code_in m l s (x ∷ t) i in
      let q = covered (either e) (occurring m l) x (codes x (inl refl)) in
      let shut = closed (either e) (either_sym e) (occurring m l) q.0 q.1 in
      let whole : (d : ℕ) → Has d (x ∷ t) → Has d q.0 =
      stays q.0 shut x t (λ a b h. or_left (e a b) (e b a) (step_edge m l s (x ∷ t) i a b h)) (λ d n. codes d (inr n)) q.2 in
      let same : q.0 ≡ p = apart_unique (components (either e) (occurring m l)) (components_apart (either e) (occurring m l) (occurring_distinct m l)) q.0 p c q.1 ip (whole c j) k in
      has_all (λ d. mem d p) (x ∷ t) (λ d n. has_mem d p (subst (Has d) same (whole d n)))
