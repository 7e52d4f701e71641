-- Ascending codes: each part is ascending, and parts stand by their smallest code.
use mathlib.Core.Path.{◌≡◌, refl, sym, ap, ap₂, subst}
use mathlib.Core.Logic.{inl, inr, ⊎_elim}
use mathlib.Core.List.{List, [], ◌∷◌}
use mathlib.Core.Bool.{Bool, true, false, not}
use Prim.Native.Nat.{ℕ, zero, suc, ◌≤◌, ◌<◌}
use native.Mathlib.Omega.{arith}
use Rattle.rules.specs.Words.{any, push, keep, each, mem, from}
use Rattle.rules.specs.Mining.{Log, Rel, components, join, head_of, occurring, graph, either, on_border, is_redo, choice_parts, redo_parts}
use Rattle.rules.proofs.ListLaws.{Has, has_keep, has_each, each_has, from_has}
use Rattle.rules.proofs.Components.{Picked, unmet, part_in, head_in}

-- each is smaller than those after it
abbrev pub Ascending : List ℕ → Type 0
Ascending [] = Unit {0}
Ascending (x ∷ xs) = ((c : ℕ) → Has c xs → x < c) × Ascending xs

ascending_push : (b : Bool) (x : ℕ) (u : List ℕ) → ((c : ℕ) → Has c u → x < c) → Ascending u → Ascending (push b x u)
ascending_push true x u h a = (h, a)
ascending_push false x u h a = a

pub ascending_keep : (p : ℕ → Bool) (xs : List ℕ) → Ascending xs → Ascending (keep p xs)
ascending_keep p [] a = tt
ascending_keep p (x ∷ xs) a = ascending_push (p x) x (keep p xs) (λ c m. a.0 c (has_keep p c xs m).0) (ascending_keep p xs a.1)

pub ascending_from : (n i : ℕ) → Ascending (from i n)
ascending_from zero i = tt
ascending_from (suc n) i = ((λ c m. let h = (from_has n (suc i) c m).0 in omega arith), ascending_from n (suc i))

-- THEOREM: the codes that occur are ascending
pub occurring_ascending : (m : ℕ) (l : Log) → Ascending (occurring m l)
unfolding occurring
occurring_ascending m l = ascending_keep (λ c. any (mem c) l) (from 0 m) (ascending_from m 0)

-- THEOREM: so is what is picked from them, and with it every part
pub picked_ascending : (cs g : List ℕ) → Ascending cs → Picked cs g → Ascending g
picked_ascending cs g a e = subst Ascending (sym e) (ascending_keep (λ c. mem c g) cs a)

-- the first of a list that has one, and no smaller one in it
pub head_has : (xs : List ℕ) (c : ℕ) → Has c xs → Has (head_of xs) xs
head_has [] c m = absurd m
head_has (x ∷ xs) c m = inl refl

pub head_smallest : (xs : List ℕ) (c : ℕ) → Ascending xs → Has c xs → head_of xs ≤ c
head_smallest [] c a m = absurd m
head_smallest (x ∷ xs) c a (inl e) = omega arith
head_smallest (x ∷ xs) c a (inr m) = let h = a.0 c m in omega arith

-- the smallest codes of the parts are ascending
abbrev pub BySmallest : List (List ℕ) → Type 0
BySmallest ps = Ascending (each head_of ps)

smallest_push : (b : Bool) (p : List ℕ) (ps : List (List ℕ)) → ((c : ℕ) → Has c (each head_of ps) → head_of p < c) → BySmallest ps → BySmallest (push b p ps)
smallest_push true p ps h a = (h, a)
smallest_push false p ps h a = a

pub smallest_keep : (t : List ℕ → Bool) (ps : List (List ℕ)) → BySmallest ps → BySmallest (keep t ps)
smallest_keep t [] a = tt
smallest_keep t (p ∷ ps) a =
    smallest_push (t p) p (keep t ps)
    (λ c m. let k = has_each head_of c (keep t ps) m in a.0 c (subst (λ (x : ℕ). Has x (each head_of ps)) (sym k.2) (each_has head_of k.0 ps (has_keep t k.0 ps k.1).0)))
    (smallest_keep t ps a.1)

-- THEOREM: two lists of parts by their smallest code that have the same parts are the same
pub smallest_same : (ps qs : List (List ℕ)) → BySmallest ps → BySmallest qs → ((p : List ℕ) → Has p ps → Has p qs) → ((p : List ℕ) → Has p qs → Has p ps) → ps ≡ qs
smallest_same [] [] a b f g = refl
smallest_same [] (q ∷ qs) a b f g = absurd (g q (inl refl))
smallest_same (p ∷ ps) [] a b f g = absurd (f p (inl refl))
smallest_same (p ∷ ps) (q ∷ qs) a b f g =
    let after : (x : List ℕ) → Has x ps → head_of p < head_of x = λ x i. a.0 (head_of x) (each_has head_of x ps i) in
    let behind : (x : List ℕ) → Has x qs → head_of q < head_of x = λ x i. b.0 (head_of x) (each_has head_of x qs i) in
    let e : p ≡ q = ⊎_elim (λ k. k) (λ i. ⊎_elim (λ k. sym k) (λ j. let h = behind p i in let n = after q j in absurd (omega arith)) (g q (inl refl))) (f p (inl refl)) in
    let heads = ap head_of e in
    ap₂ ◌∷◌ e
    (smallest_same ps qs a.1 b.1
    (λ x i. ⊎_elim (λ k. let h = after x i in let s = ap head_of k in absurd (omega arith)) (λ k. k) (f x (inr i)))
    (λ x i. ⊎_elim (λ k. let h = behind x i in let s = ap head_of k in absurd (omega arith)) (λ k. k) (g x (inr i))))

-- THEOREM: components stand by their smallest code
pub components_smallest : (r : Rel) (cs : List ℕ) → Ascending cs → BySmallest (components r cs)
unfolding components join
components_smallest r [] a = tt
components_smallest r (x ∷ xs) a = (
  (λ c m.
      let k = has_each head_of c (unmet r x xs) m in
      let i = (has_keep (λ g. not (any (r x) g)) k.0 (components r xs) k.1).0 in
      subst (λ (y : ℕ). x < y) (sym k.2) (a.0 (head_of k.0) (part_in r xs k.0 i (head_of k.0) (head_in r xs k.0 i)))),
  smallest_keep (λ g. not (any (r x) g)) (components r xs) (components_smallest r xs a.1),
)

module _ (m : ℕ) (l : Log) where
  -- THEOREM: the parts of a choice stand by their smallest code
  pub choice_smallest : BySmallest (choice_parts (graph m l))
  unfolding choice_parts graph
  choice_smallest = components_smallest (either (graph m l).edge) (occurring m l) (occurring_ascending m l)

  -- THEOREM: redo parts likewise
  pub redo_smallest : BySmallest (redo_parts (graph m l))
  unfolding redo_parts graph
  redo_smallest =
      let g = graph m l in
      let rest = keep (λ a. not (on_border g a)) (occurring m l) in
      smallest_keep (is_redo g (keep (on_border g) (occurring m l))) (components (either g.edge) rest)
      (components_smallest (either g.edge) rest (ascending_keep (λ a. not (on_border g a)) (occurring m l) (occurring_ascending m l)))
