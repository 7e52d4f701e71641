-- The parts of parallel: components that are parts or pairs, and what remains in the first. They share out the codes, tear no component, and stand by their smallest code.
-- Each has a start and an end, and there are as many as components with a start or as components with an end, whichever are fewer.
use mathlib.Core.Path.{◌≡◌, refl, sym, ap, subst}
use mathlib.Core.Logic.{◌≢◌, ◌⊎◌, inl, inr, ⊎_elim}
use mathlib.Core.List.{List, [], ◌∷◌, ◌++◌}
use mathlib.Core.Bool.{Bool, true, false, not, ◌&&◌, ◌||◌}
use Prim.Native.Nat.{ℕ, ◌+◌, min}
use native.Mathlib.Omega.{arith}
use lib.Dec.{ltb}
use lib.ListN.{length, length-append}
use borrow.Author.Tests.{ltb-true, ltb-false, not-true}
use Rattle.rules.specs.Words.{any, push, keep, flat, mem}
use Rattle.rules.specs.Mining.{Log, Graph, head_of, place_by, place, ordered, has_start, has_end, as_one, paired, made_parts, with_rest, components, not_both, graph, occurring, parallel_parts}
use Rattle.rules.proofs.BoolLaws.{bool_cases, not_both_lem, or_left, or_right, or_cases, and_cases, and_comm}
use Rattle.rules.proofs.ListLaws.{Has, any_has, has_any, has_keep, keep_has, keep_ext, each_has, has_each, has_append_left, has_append_right, has_append_cases, flat_has, has_flat, mem_has, has_mem}
use Rattle.rules.proofs.Distinct.{Apart, apart_unique, apart_keep, apart_append, keeps_apart}
use Rattle.rules.proofs.Occurring.{occurring_distinct}
use Rattle.rules.proofs.Components.{Picked, picked_keep}
use Rattle.rules.proofs.Order.{has_place, ordered_has, length_ordered, apart_ordered}
use Rattle.rules.proofs.SmallestFirst.{Ascending, BySmallest, head_smallest, head_has, picked_ascending, occurring_ascending}
use Rattle.rules.proofs.Cuts.{Parting, Two, components_parting}

-- ---- two parts as one

pub one_has : (cs p q : List ℕ) (c : ℕ) → Has c (as_one cs p q) → Has c p ⊎ Has c q
one_has cs p q c m = ⊎_elim (λ h. inl (mem_has c p h)) (λ h. inr (mem_has c q h)) (or_cases (mem c p) (mem c q) (has_keep (λ x. mem x p || mem x q) c cs m).1)

pub one_left : (cs p q : List ℕ) (c : ℕ) → Has c cs → Has c p → Has c (as_one cs p q)
one_left cs p q c i m = keep_has (λ x. mem x p || mem x q) c cs i (or_left (mem c p) (mem c q) (has_mem c p m))

pub one_right : (cs p q : List ℕ) (c : ℕ) → Has c cs → Has c q → Has c (as_one cs p q)
one_right cs p q c i m = keep_has (λ x. mem x p || mem x q) c cs i (or_right (mem c p) (mem c q) (has_mem c q m))

-- ---- pairs

-- a pair is one of the former with one of the latter
abbrev pub PairOf : List ℕ → List (List ℕ) → List (List ℕ) → List ℕ → Type 0
PairOf cs ps qs x = (p : List ℕ) × (q : List ℕ) × Has p ps × Has q qs × (x ≡ as_one cs p q)

pub paired_is : (cs : List ℕ) (ps qs : List (List ℕ)) (x : List ℕ) → Has x (paired cs ps qs) → PairOf cs ps qs x
paired_is cs [] qs x m = absurd m
paired_is cs (p ∷ ps) [] x m = absurd m
paired_is cs (p ∷ ps) (q ∷ qs) x (inl e) = (p, q, inl refl, inl refl, e)
paired_is cs (p ∷ ps) (q ∷ qs) x (inr m) = let k = paired_is cs ps qs x m in (k.0, k.1, inr k.2, inr k.3, k.4)

flat_paired : (cs : List ℕ) (ps qs : List (List ℕ)) (c : ℕ) → Has c (flat (paired cs ps qs)) → Has c (flat ps) ⊎ Has c (flat qs)
flat_paired cs ps qs c m =
    let x = has_flat c (paired cs ps qs) m in
    let k = paired_is cs ps qs x.0 x.1 in
    ⊎_elim (λ i. inl (flat_has c k.0 ps k.2 i)) (λ i. inr (flat_has c k.1 qs k.3 i)) (one_has cs k.0 k.1 c (subst (Has c) k.4 x.2))

apart_paired : (cs : List ℕ) (ps qs : List (List ℕ)) → Apart ps → Apart qs → ((c : ℕ) → Has c (flat ps) → Has c (flat qs) → ⊥) → Apart (paired cs ps qs)
apart_paired cs [] qs a b n = tt
apart_paired cs (p ∷ ps) [] a b n = tt
apart_paired cs (p ∷ ps) (q ∷ qs) a b n = (
  (λ c i j.
      ⊎_elim
      (λ x. ⊎_elim (a.0 c x) (λ y. n c (has_append_left c p (flat ps) x) (has_append_right c q (flat qs) y)) (flat_paired cs ps qs c j))
      (λ x. ⊎_elim (λ y. n c (has_append_right c p (flat ps) y) (has_append_left c q (flat qs) x)) (b.0 c x) (flat_paired cs ps qs c j))
      (one_has cs p q c i)),
  apart_paired cs ps qs a.1 b.1 (λ c i j. n c (has_append_right c p (flat ps) i) (has_append_right c q (flat qs) j)),
)

-- as many as there are of the fewer
length_paired : (cs : List ℕ) (ps qs : List (List ℕ)) → length (paired cs ps qs) ≡ min (length ps) (length qs)
length_paired cs [] qs = omega arith
length_paired cs (p ∷ ps) [] = omega arith
length_paired cs (p ∷ ps) (q ∷ qs) = omega (arith, length_paired cs ps qs)

-- of those that pass a test, those that pass another and those that do not
keep_halves : {A : Type 0} (f h : A → Bool) (xs : List A) → length (keep f xs) ≡ length (keep (λ x. f x && h x) xs) + length (keep (λ x. f x && not (h x)) xs)
keep_halves f h [] = refl
keep_halves f h (x ∷ xs) = by (f x) (h x) (keep_halves f h xs)
  where
    by : (a b : Bool) → length (keep f xs) ≡ length (keep (λ y. f y && h y) xs) + length (keep (λ y. f y && not (h y)) xs) →
        length (push a x (keep f xs)) ≡ length (push (a && b) x (keep (λ y. f y && h y) xs)) + length (push (a && not b) x (keep (λ y. f y && not (h y)) xs))
    by true true k = omega arith
    by true false k = omega arith
    by false b k = k

-- ---- by their smallest codes

smallest_place : (p : List ℕ) (qs : List (List ℕ)) → ((q : List ℕ) → Has q qs → head_of p ≡ head_of q → ⊥) → BySmallest qs → BySmallest (place ltb p qs)
smallest_place p [] n a = ((λ c m. absurd m), tt)
smallest_place p (q ∷ qs) n a = by (ltb (head_of p) (head_of q)) refl (smallest_place p qs (λ x m. n x (inr m)) a.1)
  where
    by : (b : Bool) → ltb (head_of p) (head_of q) ≡ b → BySmallest (place ltb p qs) → BySmallest (place_by b p q qs (place ltb p qs))
    by true e f = let l = ltb-true (head_of p) (head_of q) e in ((λ c m. ⊎_elim (λ (k : c ≡ head_of q). omega arith) (λ k. let h = a.0 c k in omega arith) m), a)
    by false e f =
        let l = ltb-false (head_of p) (head_of q) e in
        let differ = n q (inl refl) in (
          (λ c m.
              let k = has_each head_of c (place ltb p qs) m in
              let same = k.2 in
              ⊎_elim (λ (x : k.0 ≡ p). let h = ap head_of x in omega arith) (λ x. let h = a.0 (head_of k.0) (each_has head_of k.0 qs x) in omega arith) (has_place ltb p qs k.0 k.1)),
          f,
        )

-- THEOREM: parts without a common code, each with its first, stand by their smallest code once they are put in order
pub ordered_smallest : (ps : List (List ℕ)) → Apart ps → ((p : List ℕ) → Has p ps → Has (head_of p) p) → BySmallest (ordered ltb ps)
ordered_smallest [] a h = tt
ordered_smallest (p ∷ ps) a h =
    smallest_place p (ordered ltb ps)
    (λ q m e. let i = ordered_has ltb ps q m in a.0 (head_of p) (h p (inl refl)) (flat_has (head_of p) q ps i (subst (λ (c : ℕ). Has c q) (sym e) (h q (inr i)))))
    (ordered_smallest ps a.1 (λ q m. h q (inr m)))

-- ---- what components become

-- parts that some of the codes make
pub record Laid (cs : List ℕ) (ps : List (List ℕ)) : Type 0 where
  pub apart : Apart ps
  pub inside : (p : List ℕ) → Has p ps → (c : ℕ) → Has c p → Has c cs
  pub some : (p : List ℕ) → Has p ps → (c : ℕ) × Has c p
  pub picked : (p : List ℕ) → Has p ps → Picked cs p

-- a test that a code of a part passes, one of a wider part passes
any_wider : (t : ℕ → Bool) (p x : List ℕ) → ((c : ℕ) → Has c p → Has c x) → any t p ≡ true → any t x ≡ true
any_wider t p x w h = let k = has_any t p h in any_has t k.0 x (w k.0 k.1) k.2

-- no component is torn: one with a code in a part has all of its codes there
abbrev pub Untorn : List (List ℕ) → List (List ℕ) → Type 0
Untorn gs ps = (g : List ℕ) → Has g gs → (p : List ℕ) → Has p ps → (a b : ℕ) → Has a g → Has b g → Has a p → Has b p

module _ (G : Graph) (gs : List (List ℕ)) (k : Parting G.codes gs) where
  abbrev both : List ℕ → Bool
  both p = has_start G p && has_end G p

  abbrev starting : List ℕ → Bool
  starting p = has_start G p && not (has_end G p)

  abbrev ending : List ℕ → Bool
  ending p = not (has_start G p) && has_end G p

  -- before they are put in order
  abbrev pub unordered : List (List ℕ)
  unordered = keep both gs ++ paired G.codes (keep starting gs) (keep ending gs)

  -- a component with both, or a pair
  abbrev pub MadeOf : List ℕ → Type 0
  MadeOf x = (Has x gs × (both x ≡ true)) ⊎ PairOf G.codes (keep starting gs) (keep ending gs) x

  unordered_is : (x : List ℕ) → Has x unordered → MadeOf x
  unordered_is x m =
      ⊎_elim (λ i. inl (has_keep both x gs i)) (λ i. inr (paired_is G.codes (keep starting gs) (keep ending gs) x i))
      (has_append_cases x (keep both gs) (paired G.codes (keep starting gs) (keep ending gs)) m)

  pub made_is : (x : List ℕ) → Has x (made_parts G gs) → MadeOf x
  unfolding made_parts
  made_is x m = unordered_is x (ordered_has ltb unordered x m)

  apart_unordered : Apart unordered
  apart_unordered =
      let start_end = keeps_apart starting ending (λ g s e. not_both_lem (has_start G g) (and_cases (has_start G g) (not (has_end G g)) s).0 (not-true (has_start G g) (and_cases (not (has_start G g)) (has_end G g) e).0)) gs k.apart in
      let both_start = keeps_apart both starting (λ g b s. not_both_lem (has_end G g) (and_cases (has_start G g) (has_end G g) b).1 (not-true (has_end G g) (and_cases (has_start G g) (not (has_end G g)) s).1)) gs k.apart in
      let both_end = keeps_apart both ending (λ g b e. not_both_lem (has_start G g) (and_cases (has_start G g) (has_end G g) b).0 (not-true (has_start G g) (and_cases (not (has_start G g)) (has_end G g) e).0)) gs k.apart in
      apart_append (keep both gs) (paired G.codes (keep starting gs) (keep ending gs)) (apart_keep both gs k.apart)
      (apart_paired G.codes (keep starting gs) (keep ending gs) (apart_keep starting gs k.apart) (apart_keep ending gs k.apart) start_end)
      (λ c i j. ⊎_elim (both_start c i) (both_end c i) (flat_paired G.codes (keep starting gs) (keep ending gs) c j))

  pub made_apart : Apart (made_parts G gs)
  unfolding made_parts
  made_apart = apart_ordered ltb unordered apart_unordered

  -- a code of a component is one of the codes
  code_of_group : (g : List ℕ) → Has g gs → (c : ℕ) → Has c g → Has c G.codes
  code_of_group g i c j = k.inside c (flat_has c g gs i j)

  of_made : (x : List ℕ) → MadeOf x → ((c : ℕ) → Has c x → Has c G.codes) × ((c : ℕ) × Has c x) × Picked G.codes x
  of_made x (inl m) = (code_of_group x m.0, k.some x m.0, k.picked x m.0)
  of_made x (inr m) =
      let cs = G.codes in
      let p = m.0 in
      let q = m.1 in
      let e : x ≡ as_one cs p q = m.4 in
      let i = (has_keep starting p gs m.2).0 in
      let c = k.some p i in (
        (λ d j. (has_keep (λ y. mem y p || mem y q) d cs (subst (Has d) e j)).0),
        (c.0, subst (Has c.0) (sym e) (one_left cs p q c.0 (code_of_group p i c.0 c.1) c.1)),
        subst (Picked cs) (sym e) (picked_keep (λ y. mem y p || mem y q) cs),
      )

  pub made_laid : Laid G.codes (made_parts G gs)
  made_laid =
      record {
        apart = made_apart;
        inside = λ x i. (of_made x (made_is x i)).0;
        some = λ x i. (of_made x (made_is x i)).1;
        picked = λ x i. (of_made x (made_is x i)).2;
      }

  pub made_smallest : BySmallest (made_parts G gs)
  unfolding made_parts
  made_smallest = ordered_smallest unordered apart_unordered (λ p i. let c = (of_made p (unordered_is p i)).1 in head_has p c.0 c.1)

  untorn_made : (g : List ℕ) → Has g gs → (x : List ℕ) → MadeOf x → (a b : ℕ) → Has a g → Has b g → Has a x → Has b x
  untorn_made g i x (inl m) a b ia ib h = subst (Has b) (apart_unique gs k.apart g x a i m.0 ia h) ib
  untorn_made g i x (inr m) a b ia ib h =
      let cs = G.codes in
      let p = m.0 in
      let q = m.1 in
      let code = code_of_group g i b ib in
      subst (Has b) (sym m.4)
      (⊎_elim (λ j. one_left cs p q b code (subst (Has b) (apart_unique gs k.apart g p a i (has_keep starting p gs m.2).0 ia j) ib))
      (λ j. one_right cs p q b code (subst (Has b) (apart_unique gs k.apart g q a i (has_keep ending q gs m.3).0 ia j) ib))
      (one_has cs p q a (subst (Has a) m.4 h)))

  pub made_untorn : Untorn gs (made_parts G gs)
  made_untorn g i x m = untorn_made g i x (made_is x m)

  ends_made : (x : List ℕ) → MadeOf x → (has_start G x ≡ true) × (has_end G x ≡ true)
  ends_made x (inl m) = and_cases (has_start G x) (has_end G x) m.1
  ends_made x (inr m) =
      let cs = G.codes in
      let p = m.0 in
      let q = m.1 in
      let i = has_keep starting p gs m.2 in
      let j = has_keep ending q gs m.3 in
      subst (λ (y : List ℕ). (has_start G y ≡ true) × (has_end G y ≡ true)) (sym m.4) (
        any_wider G.start p (as_one cs p q) (λ c n. one_left cs p q c (code_of_group p i.0 c n) n) (and_cases (has_start G p) (not (has_end G p)) i.1).0,
        any_wider G.end q (as_one cs p q) (λ c n. one_right cs p q c (code_of_group q j.0 c n) n) (and_cases (not (has_start G q)) (has_end G q) j.1).1,
      )

-- ---- what remains joins the first

-- in the first part or in none
first_has : (cs p : List ℕ) (ps : List (List ℕ)) (c : ℕ) → Has c (as_one cs p (keep (λ x. not (any (mem x) (p ∷ ps))) cs)) → Has c p ⊎ (Has c (flat ps) → ⊥)
first_has cs p ps c m =
    ⊎_elim inl
    (λ i.
    inr
    (λ j. let q = has_flat c ps j in
    not_both_lem (any (mem c) (p ∷ ps)) (any_has (mem c) q.0 (p ∷ ps) (inr q.1) (has_mem c q.0 q.2)) (not-true (any (mem c) (p ∷ ps)) (has_keep (λ x. not (any (mem x) (p ∷ ps))) c cs i).1)))
    (one_has cs p (keep (λ x. not (any (mem x) (p ∷ ps))) cs) c m)

-- a code is in the first part or in a later one
first_or : (cs p : List ℕ) (ps : List (List ℕ)) (c : ℕ) → Has c cs → Has c (as_one cs p (keep (λ x. not (any (mem x) (p ∷ ps))) cs)) ⊎ Has c (flat ps)
first_or cs p ps c i =
    let remain = keep (λ x. not (any (mem x) (p ∷ ps))) cs in
    ⊎_elim
    (λ (h : any (mem c) (p ∷ ps) ≡ true).
    let q = has_any (mem c) (p ∷ ps) h in
    ⊎_elim (λ (e : q.0 ≡ p). inl (one_left cs p remain c i (subst (Has c) e (mem_has c q.0 q.2)))) (λ j. inr (flat_has c q.0 ps j (mem_has c q.0 q.2))) q.1)
    (λ (h : any (mem c) (p ∷ ps) ≡ false). inl (one_right cs p remain c i (keep_has (λ x. not (any (mem x) (p ∷ ps))) c cs i (ap not h))))
    (bool_cases (any (mem c) (p ∷ ps)))

pub rest_parting : (cs : List ℕ) (ps : List (List ℕ)) → Laid cs ps → with_rest cs ps ≢ [] → Parting cs (with_rest cs ps)
rest_parting cs [] l some = absurd (some refl)
rest_parting cs (p ∷ ps) l some =
    let remain = keep (λ x. not (any (mem x) (p ∷ ps))) cs in
    let first = as_one cs p remain in
    let c = l.some p (inl refl) in
    record {
      apart = ((λ c i j. ⊎_elim (λ h. l.apart.0 c h j) (λ h. h j) (first_has cs p ps c i)), l.apart.1);
      covers = λ c i. ⊎_elim (has_append_left c first (flat ps)) (has_append_right c first (flat ps)) (first_or cs p ps c i);
      inside = λ c i. ⊎_elim (λ h. (has_keep (λ x. mem x p || mem x remain) c cs h).0) (λ h. let q = has_flat c ps h in l.inside q.0 (inr q.1) c q.2) (has_append_cases c first (flat ps) i);
      some = λ x m. ⊎_elim (λ e. (c.0, subst (Has c.0) (sym e) (one_left cs p remain c.0 (l.inside p (inl refl) c.0 c.1) c.1))) (λ i. l.some x (inr i)) m;
      picked = λ x m. ⊎_elim (λ e. subst (Picked cs) (sym e) (picked_keep (λ y. mem y p || mem y remain) cs)) (λ i. l.picked x (inr i)) m;
    }

pub rest_smallest : (cs : List ℕ) (ps : List (List ℕ)) → Ascending cs → Laid cs ps → BySmallest ps → BySmallest (with_rest cs ps)
rest_smallest cs [] a l s = tt
rest_smallest cs (p ∷ ps) a l s =
    let remain = keep (λ x. not (any (mem x) (p ∷ ps))) cs in
    let c = l.some p (inl refl) in
    let h = head_has p c.0 c.1 in
    let low = head_smallest (as_one cs p remain) (head_of p) (picked_ascending cs (as_one cs p remain) a (picked_keep (λ y. mem y p || mem y remain) cs)) (one_left cs p remain (head_of p) (l.inside p (inl refl) (head_of p) h) h) in
    ((λ d m. let n = s.0 d m in omega arith), s.1)

-- a component outside all parts is in the first as a whole
pub rest_untorn : (cs : List ℕ) (gs ps : List (List ℕ)) → ((g : List ℕ) → Has g gs → (c : ℕ) → Has c g → Has c cs) → Untorn gs ps → Untorn gs (with_rest cs ps)
rest_untorn cs gs [] code u g i x m a b ia ib h = absurd m
rest_untorn cs gs (p ∷ ps) code u g i x (inr m) a b ia ib h = u g i x (inr m) a b ia ib h
rest_untorn cs gs (p ∷ ps) code u g i x (inl e) a b ia ib h =
    let remain = keep (λ y. not (any (mem y) (p ∷ ps))) cs in
    subst (Has b) (sym e)
    (⊎_elim (λ j. j)
    (λ (j : Has b (flat ps)).
    let q = has_flat b ps j in
    let there : Has a q.0 = u g i q.0 (inr q.1) b a ib ia q.2 in
    ⊎_elim (λ y. one_left cs p remain b (code g i b ib) (u g i p (inl refl) a b ia ib y)) (λ y. absurd (y (flat_has a q.0 ps q.1 there))) (first_has cs p ps a (subst (Has a) e h)))
    (first_or cs p ps b (code g i b ib)))

-- each part has one of those that were made
rest_wider : (cs : List ℕ) (ps : List (List ℕ)) → Laid cs ps → (x : List ℕ) → Has x (with_rest cs ps) → (p : List ℕ) × Has p ps × ((c : ℕ) → Has c p → Has c x)
rest_wider cs [] l x m = absurd m
rest_wider cs (p ∷ ps) l x (inl e) =
    (p, inl refl, λ c i. subst (Has c) (sym e) (one_left cs p (keep (λ y. not (any (mem y) (p ∷ ps))) cs) c (l.inside p (inl refl) c i) i))
rest_wider cs (p ∷ ps) l x (inr m) = (x, inr m, λ c i. i)

rest_length : (cs : List ℕ) (ps : List (List ℕ)) → length (with_rest cs ps) ≡ length ps
rest_length cs [] = refl
rest_length cs (p ∷ ps) = refl

-- THEOREM: there are as many parts as components with a start or as components with an end, whichever are fewer
pub parallel_number : (g : Graph) →
    length (parallel_parts g) ≡ min (length (keep (has_start g) (components (not_both g.edge) g.codes))) (length (keep (has_end g) (components (not_both g.edge) g.codes)))
unfolding parallel_parts made_parts
parallel_number g =
    let gs = components (not_both g.edge) g.codes in
    let both = keep (λ p. has_start g p && has_end g p) gs in
    let starting = keep (λ p. has_start g p && not (has_end g p)) gs in
    let ending = keep (λ p. not (has_start g p) && has_end g p) gs in
    let pairs = paired g.codes starting ending in
    omega (
      arith,
      rest_length g.codes (ordered ltb (both ++ pairs)),
      length_ordered ltb (both ++ pairs),
      length-append both pairs,
      length_paired g.codes starting ending,
      keep_halves (has_start g) (has_end g) gs,
      keep_halves (has_end g) (has_start g) gs,
      ap length (keep_ext (λ p. has_end g p && has_start g p) (λ p. has_start g p && has_end g p) gs (λ p _. and_comm (has_end g p) (has_start g p))),
      ap length (keep_ext (λ p. has_end g p && not (has_start g p)) (λ p. not (has_start g p) && has_end g p) gs (λ p _. and_comm (has_end g p) (not (has_start g p)))),
    )

-- ---- of a log

module _ (m : ℕ) (l : Log) where
  -- the components of two codes joined unless both edges exist
  abbrev pub groups : List (List ℕ)
  groups = components (not_both (graph m l).edge) (occurring m l)

  pub groups_parting : Parting (graph m l).codes groups
  unfolding graph
  groups_parting = components_parting (not_both (graph m l).edge) (occurring m l) (occurring_distinct m l)

  -- THEOREM: the parts of parallel, where there are any, share out the codes
  pub some_parting : parallel_parts (graph m l) ≢ [] → Parting (occurring m l) (parallel_parts (graph m l))
  unfolding parallel_parts graph
  some_parting = rest_parting (occurring m l) (made_parts (graph m l) groups) (made_laid (graph m l) groups groups_parting)

  -- so those of a parallel cut
  pub parallel_parting : Two (parallel_parts (graph m l)) → Parting (occurring m l) (parallel_parts (graph m l))
  parallel_parting w = some_parting (λ e. subst Two e w)

  -- THEOREM: they stand by their smallest code
  pub parallel_smallest : BySmallest (parallel_parts (graph m l))
  unfolding parallel_parts graph
  parallel_smallest = rest_smallest (occurring m l) (made_parts (graph m l) groups) (occurring_ascending m l) (made_laid (graph m l) groups groups_parting) (made_smallest (graph m l) groups groups_parting)

  -- THEOREM: no component is torn
  pub parallel_untorn : Untorn groups (parallel_parts (graph m l))
  unfolding parallel_parts graph
  parallel_untorn =
      rest_untorn (occurring m l) groups (made_parts (graph m l) groups) (λ g i c j. groups_parting.inside c (flat_has c g groups i j)) (made_untorn (graph m l) groups groups_parting)

  -- THEOREM: each has a start and an end
  pub parallel_ends : (p : List ℕ) → Has p (parallel_parts (graph m l)) → (has_start (graph m l) p ≡ true) × (has_end (graph m l) p ≡ true)
  unfolding parallel_parts graph
  parallel_ends p i =
      let g = graph m l in
      let q = rest_wider (occurring m l) (made_parts g groups) (made_laid g groups groups_parting) p i in
      let k = ends_made g groups groups_parting q.0 (made_is g groups groups_parting q.0 q.1) in
      (any_wider g.start q.0 p q.2 k.0, any_wider g.end q.0 p q.2 k.1)
