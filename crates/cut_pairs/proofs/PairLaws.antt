-- Components paired by their places, at the earlier one: those with a start and an end are then the parts that the rules make, in their order.
use mathlib.Core.Path.{◌≡◌, refl, sym, ◌∙◌, ap, ap₂, subst}
use mathlib.Core.Logic.{◌≢◌, ◌⊎◌, inl, inr, ⊎_elim}
use mathlib.Core.List.{List, [], ◌∷◌, ◌++◌}
use mathlib.Core.Bool.{Bool, true, not, ◌&&◌}
use Prim.Native.Nat.{ℕ, zero, suc, ◌<◌, ◌≤◌}
use native.Mathlib.Omega.{arith}
use lib.Dec.{ltb}
use lib.ListN.{length, get_or, set, length-set}
use lib.Seq.{get_or-set_other}
use borrow.Author.Tests.{lt-ltb, le-ltb, not-true}
use Rattle.rules.specs.Words.{keep, each, from}
use Rattle.rules.specs.Mining.{Graph, head_of, has_start, has_end, as_one, paired, made_parts}
use Rattle.rules.proofs.BoolLaws.{not_both_lem, and_both, and_cases}
use Rattle.rules.proofs.ListLaws.{Has, any_has, has_any, has_keep, keep_has, from_has, has_append_left, has_append_right, has_append_cases, flat_has}
use Rattle.rules.proofs.FilterLaws.{keep_each}
use Rattle.rules.proofs.Distinct.{Distinct, distinct_keep, distinct_from}
use Rattle.rules.proofs.Components.{Picked, picked_keep}
use Rattle.rules.proofs.Order.{ordered_has, has_ordered}
use Rattle.rules.proofs.SmallestFirst.{Ascending, BySmallest, head_has, head_smallest, picked_ascending, smallest_keep, smallest_same}
use Rattle.rules.proofs.Cuts.{Parting}
use Rattle.rules.proofs.ParallelParts.{one_has, one_left, one_right, made_smallest}
use Rattle.code_sets.proofs.BitLaws.{lt_or_le}
use Rattle.cut_pairs.specs.Pairs.{earlier, places_of, pair_at, pair_all}

-- ---- places of a list

each_suc : {B : Type 0} (g : ℕ → B) (n i : ℕ) → each g (from (suc i) n) ≡ each (λ k. g (suc k)) (from i n)
each_suc g zero i = refl
each_suc g (suc n) i = ap (◌∷◌ (g (suc i))) (each_suc g n (suc i))

-- what stands at all places is the list
all_places : {A : Type 0} (z : A) (t : List A) → each (λ i. get_or t i z) (from 0 (length t)) ≡ t
all_places z [] = refl
all_places z (x ∷ t) = ap (◌∷◌ x) (each_suc (λ i. get_or (x ∷ t) i z) (length t) 0 ∙ all_places z t)

-- what stands at the places of those that pass is those that pass
at_places : {A : Type 0} (z : A) (f : A → Bool) (t : List A) → each (λ i. get_or t i z) (places_of z f t) ≡ keep f t
at_places z f t = sym (keep_each f (λ i. get_or t i z) (from 0 (length t))) ∙ ap (keep f) (all_places z t)

pub place_is : {A : Type 0} (z : A) (f : A → Bool) (t : List A) (i : ℕ) → Has i (places_of z f t) → (i < length t) × (f (get_or t i z) ≡ true)
place_is z f t i m = let k = has_keep (λ j. f (get_or t j z)) i (from 0 (length t)) m in let l = from_has (length t) 0 i k.0 in (omega arith, k.1)

pub has_at : {A : Type 0} (z : A) (t : List A) (i : ℕ) → i < length t → Has (get_or t i z) t
has_at z [] i l = absurd (omega arith)
has_at z (x ∷ t) zero l = inl refl
has_at z (x ∷ t) (suc i) l = inr (has_at z t i (omega arith))

pub has_set : {A : Type 0} (t : List A) (e : ℕ) (v x : A) → Has x (set t e v) → (x ≡ v) ⊎ Has x t
has_set [] e v x m = inr m
has_set (y ∷ t) zero v x (inl h) = inl h
has_set (y ∷ t) zero v x (inr m) = inr (inr m)
has_set (y ∷ t) (suc e) v x (inl h) = inr (inl h)
has_set (y ∷ t) (suc e) v x (inr m) = ⊎_elim inl (λ k. inr (inr k)) (has_set t e v x m)

set_has : {A : Type 0} (t : List A) (e : ℕ) (v : A) → e < length t → Has v (set t e v)
set_has [] e v l = absurd (omega arith)
set_has (y ∷ t) zero v l = inl refl
set_has (y ∷ t) (suc e) v l = inr (set_has t e v (omega arith))

set_keeps : {A : Type 0} (z : A) (t : List A) (e : ℕ) (v x : A) → Has x t → (x ≡ get_or t e z → ⊥) → Has x (set t e v)
set_keeps z [] e v x m n = m
set_keeps z (y ∷ t) zero v x (inl h) n = absurd (n h)
set_keeps z (y ∷ t) zero v x (inr m) n = inr m
set_keeps z (y ∷ t) (suc e) v x (inl h) n = inl h
set_keeps z (y ∷ t) (suc e) v x (inr m) n = inr (set_keeps z t e v x m n)

heads_set : (t : List (List ℕ)) (e : ℕ) (v : List ℕ) → head_of v ≡ head_of (get_or t e []) → each head_of (set t e v) ≡ each head_of t
heads_set [] e v h = refl
heads_set (y ∷ t) zero v h = ap (λ (c : ℕ). c ∷ each head_of t) h
heads_set (y ∷ t) (suc e) v h = ap (◌∷◌ (head_of y)) (heads_set t e v h)

head_in_order : (t : List (List ℕ)) (i j : ℕ) → BySmallest t → i < j → j < length t → head_of (get_or t i []) < head_of (get_or t j [])
head_in_order [] i j a l h = absurd (omega arith)
head_in_order (x ∷ t) zero zero a l h = absurd (omega arith)
head_in_order (x ∷ t) zero (suc j) a l h = a.0 (head_of (get_or t j [])) (heads t (get_or t j []) (has_at [] t j (omega arith)))
  where
    heads : (u : List (List ℕ)) (p : List ℕ) → Has p u → Has (head_of p) (each head_of u)
    heads [] p m = absurd m
    heads (q ∷ u) p (inl h) = inl (ap head_of h)
    heads (q ∷ u) p (inr m) = inr (heads u p m)
head_in_order (x ∷ t) (suc i) zero a l h = absurd (omega arith)
head_in_order (x ∷ t) (suc i) (suc j) a l h = head_in_order t i j a.1 (omega arith) (omega arith)

-- ---- a table of parts, and places of it that are to be paired

module _ (G : Graph) (up : Ascending G.codes) where
  abbrev both : List ℕ → Bool
  both p = has_start G p && has_end G p

  abbrev pub starting : List ℕ → Bool
  starting p = has_start G p && not (has_end G p)

  abbrev pub ending : List ℕ → Bool
  ending p = not (has_start G p) && has_end G p

  abbrev at : List (List ℕ) → ℕ → List ℕ
  at t i = get_or t i []

  -- some of the codes, ascending
  record Entry (p : List ℕ) : Type 0 where
    inside : (c : ℕ) → Has c p → Has c G.codes
    some : (c : ℕ) × Has c p
    picked : Picked G.codes p

  record Ready (is js : List ℕ) (t : List (List ℕ)) : Type 0 where
    entries : (p : List ℕ) → Has p t → Entry p
    order : BySmallest t
    ours : (i : ℕ) → Has i is → (i < length t) × (starting (at t i) ≡ true)
    theirs : (j : ℕ) → Has j js → (j < length t) × (ending (at t j) ≡ true)
    once : Distinct is
    once_theirs : Distinct js

  -- no part has only starts and only ends
  not_alike : (p : List ℕ) → starting p ≡ true → ending p ≡ true → ⊥
  not_alike p s e = not_both_lem (has_start G p) (and_cases (has_start G p) (not (has_end G p)) s).0 (not-true (has_start G p) (and_cases (not (has_start G p)) (has_end G p) e).0)

  entry_one : (p q : List ℕ) → Entry p → Entry (as_one G.codes p q)
  entry_one p q k =
      let cs = G.codes in
      let c = k.some in
      record {
        inside = λ d m. asked d m;
        some = (c.0, one_left cs p q c.0 (k.inside c.0 c.1) c.1);
        picked = picked_keep _ cs;
      }
    where
      asked : (d : ℕ) → Has d (as_one G.codes p q) → Has d G.codes
      asked d m = (has_keep _ d G.codes m).0

  -- the smallest code of two as one
  head_one : (p q : List ℕ) → Entry p → Entry q → (head_of (as_one G.codes p q) ≤ head_of p) × (head_of (as_one G.codes p q) ≤ head_of q) × ((head_of p ≤ head_of (as_one G.codes p q)) ⊎ (head_of q ≤ head_of (as_one G.codes p q)))
  head_one p q k h =
      let cs = G.codes in
      let x = as_one cs p q in
      let asc = picked_ascending cs x up (picked_keep _ cs) in
      let hp = head_has p k.some.0 k.some.1 in
      let hq = head_has q h.some.0 h.some.1 in
      let ip = one_left cs p q (head_of p) (k.inside (head_of p) hp) hp in
      let iq = one_right cs p q (head_of q) (h.inside (head_of q) hq) hq in (
        head_smallest x (head_of p) asc ip,
        head_smallest x (head_of q) asc iq,
        ⊎_elim (λ m. inl (head_smallest p (head_of x) (picked_ascending cs p up k.picked) m)) (λ m. inr (head_smallest q (head_of x) (picked_ascending cs q up h.picked) m)) (one_has cs p q (head_of x) (head_has x (head_of p) ip)),
      )

  head_first : (p q : List ℕ) → Entry p → Entry q → head_of p < head_of q → head_of (as_one G.codes p q) ≡ head_of p
  head_first p q k h o =
      let x = as_one G.codes p q in
      let f = head_one p q k h in
      ⊎_elim (λ (c : head_of p ≤ head_of x). omega (arith, f.0)) (λ (c : head_of q ≤ head_of x). omega (arith, f.0)) f.2

  head_second : (p q : List ℕ) → Entry p → Entry q → head_of q < head_of p → head_of (as_one G.codes p q) ≡ head_of q
  head_second p q k h o =
      let x = as_one G.codes p q in
      let f = head_one p q k h in
      ⊎_elim (λ (c : head_of p ≤ head_of x). omega (arith, f.1)) (λ (c : head_of q ≤ head_of x). omega (arith, f.1)) f.2

  module _ (i j : ℕ) (is js : List ℕ) (t : List (List ℕ)) (k : Ready (i ∷ is) (j ∷ js) t) where
    abbrev mine : (i < length t) × (starting (at t i) ≡ true)
    mine = k.ours i (inl refl)

    abbrev yours : (j < length t) × (ending (at t j) ≡ true)
    yours = k.theirs j (inl refl)

    abbrev pair : List ℕ
    pair = as_one G.codes (at t i) (at t j)

    apart : i ≢ j
    apart e = not_alike (at t i) mine.1 (subst (λ (x : ℕ). ending (at t x) ≡ true) (sym e) yours.1)

    -- the earlier place is one of the two
    which : ((i < j) × (earlier i j ≡ i)) ⊎ ((j < i) × (earlier i j ≡ j))
    which =
        let n = apart in
        ⊎_elim (λ (l : i < j). inl (l, rw (lt-ltb i j l) refl)) (λ (l : j ≤ i). inr (other l n, rw (le-ltb i j l) refl)) (lt_or_le i j)
      where
        other : j ≤ i → i ≢ j → j < i
        other l n = ⊎_elim (λ (h : j < i). h) (λ (h : i ≤ j). absurd (n (omega arith))) (lt_or_le j i)

    room : earlier i j < length t
    room = ⊎_elim (λ w. rw w.1 mine.0) (λ w. rw w.1 yours.0) which

    entry_i : Entry (at t i)
    entry_i = k.entries (at t i) (has_at [] t i mine.0)

    entry_j : Entry (at t j)
    entry_j = k.entries (at t j) (has_at [] t j yours.0)

    -- places other than the two are as they were
    stays : (x : ℕ) → x ≢ i → x ≢ j → at (pair_at [] (as_one G.codes) i j t) x ≡ at t x
    stays x n m = get_or-set_other t (earlier i j) x pair [] (λ e. ⊎_elim (λ w. n (e ∙ w.1)) (λ w. m (e ∙ w.1)) which)

    stays_ours : (x : ℕ) → Has x is → at (pair_at [] (as_one G.codes) i j t) x ≡ at t x
    stays_ours x m =
        stays x (λ e. k.once.0 (subst (λ (y : ℕ). Has y is) e m))
        (λ e. not_alike (at t x) (k.ours x (inr m)).1 (subst (λ (y : ℕ). ending (at t y) ≡ true) (sym e) yours.1))

    stays_theirs : (x : ℕ) → Has x js → at (pair_at [] (as_one G.codes) i j t) x ≡ at t x
    stays_theirs x m =
        stays x (λ e. not_alike (at t x) (subst (λ (y : ℕ). starting (at t y) ≡ true) (sym e) mine.1) (k.theirs x (inr m)).1)
        (λ e. k.once_theirs.0 (subst (λ (y : ℕ). Has y js) e m))

    heads_stay : each head_of (pair_at [] (as_one G.codes) i j t) ≡ each head_of t
    heads_stay =
        heads_set t (earlier i j) pair
        (⊎_elim (λ w. head_first (at t i) (at t j) entry_i entry_j (head_in_order t i j k.order w.0 yours.0) ∙ ap (λ (x : ℕ). head_of (at t x)) (sym w.1))
        (λ w. head_second (at t i) (at t j) entry_i entry_j (head_in_order t j i k.order w.0 mine.0) ∙ ap (λ (x : ℕ). head_of (at t x)) (sym w.1)) which)

    next : Ready is js (pair_at [] (as_one G.codes) i j t)
    next =
        let size = length-set t (earlier i j) pair in
        record {
          entries = λ p m. ⊎_elim (λ e. subst Entry (sym e) (entry_one (at t i) (at t j) entry_i)) (k.entries p) (has_set t (earlier i j) pair p m);
          order = subst Ascending (sym heads_stay) k.order;
          ours = λ x m. let o = k.ours x (inr m) in (subst (λ (n : ℕ). x < n) (sym size) o.0, subst (λ (p : List ℕ). starting p ≡ true) (sym (stays_ours x m)) o.1);
          theirs = λ x m. let o = k.theirs x (inr m) in (subst (λ (n : ℕ). x < n) (sym size) o.0, subst (λ (p : List ℕ). ending p ≡ true) (sym (stays_theirs x m)) o.1);
          once = k.once.1;
          once_theirs = k.once_theirs.1;
        }

    pair_both : both pair ≡ true
    pair_both =
        let cs = G.codes in
        let s = has_any G.start (at t i) (and_cases (has_start G (at t i)) (not (has_end G (at t i))) mine.1).0 in
        let e = has_any G.end (at t j) (and_cases (not (has_start G (at t j))) (has_end G (at t j)) yours.1).1 in
        and_both (has_start G pair) (has_end G pair) (any_has G.start s.0 pair (one_left cs (at t i) (at t j) s.0 (entry_i.inside s.0 s.1) s.1) s.2)
        (any_has G.end e.0 pair (one_right cs (at t i) (at t j) e.0 (entry_j.inside e.0 e.1) e.1) e.2)

    -- what the pair stands over had not both
    before_not : both (at t (earlier i j)) ≡ true → ⊥
    before_not h =
        ⊎_elim
        (λ w. let p = at t i in
        not_both_lem (has_end G p) (and_cases (has_start G p) (has_end G p) (subst (λ (x : ℕ). both (at t x) ≡ true) w.1 h)).1 (not-true (has_end G p) (and_cases (has_start G p) (not (has_end G p)) mine.1).1))
        (λ w. let p = at t j in
        not_both_lem (has_start G p) (and_cases (has_start G p) (has_end G p) (subst (λ (x : ℕ). both (at t x) ≡ true) w.1 h)).0 (not-true (has_start G p) (and_cases (not (has_start G p)) (has_end G p) yours.1).0))
        which

    -- with both, after the pair was made: the pair, and those before
    both_next : (x : List ℕ) → Has x (keep both (pair_at [] (as_one G.codes) i j t)) → (x ≡ pair) ⊎ Has x (keep both t)
    both_next x m = let h = has_keep both x (pair_at [] (as_one G.codes) i j t) m in ⊎_elim inl (λ n. inr (keep_has both x t n h.1)) (has_set t (earlier i j) pair x h.0)

    next_both : (x : List ℕ) → (x ≡ pair) ⊎ Has x (keep both t) → Has x (keep both (pair_at [] (as_one G.codes) i j t))
    next_both x (inl e) = subst (λ (y : List ℕ). Has y (keep both (pair_at [] (as_one G.codes) i j t))) (sym e) (keep_has both pair (pair_at [] (as_one G.codes) i j t) (set_has t (earlier i j) pair room) pair_both)
    next_both x (inr m) =
        let h = has_keep both x t m in
        keep_has both x (pair_at [] (as_one G.codes) i j t) (set_keeps [] t (earlier i j) pair x h.0 (λ e. before_not (subst (λ (y : List ℕ). both y ≡ true) e h.1))) h.1

  -- what stands at the places that pass, in pairs, beside those with both
  abbrev Made : List ℕ → List ℕ → List (List ℕ) → List (List ℕ)
  Made is js t = keep both t ++ paired G.codes (each (at t) is) (each (at t) js)

  each_stays : (is : List ℕ) (t u : List (List ℕ)) → ((x : ℕ) → Has x is → at u x ≡ at t x) → each (at u) is ≡ each (at t) is
  each_stays [] t u h = refl
  each_stays (i ∷ is) t u h = ap₂ ◌∷◌ (h i (inl refl)) (each_stays is t u (λ x m. h x (inr m)))

  nothing_more : (t : List (List ℕ)) (x : List ℕ) → Has x (keep both t ++ []) → Has x (keep both t)
  nothing_more t x m = ⊎_elim (λ h. h) (λ n. absurd n) (has_append_cases x (keep both t) [] m)

  -- those with both after all pairs are the parts made
  made : (is js : List ℕ) (t : List (List ℕ)) → Ready is js t → (x : List ℕ) → Has x (keep both (pair_all [] (as_one G.codes) is js t)) → Has x (Made is js t)
  made [] js t k x m = has_append_left x (keep both t) [] m
  made (i ∷ is) [] t k x m = has_append_left x (keep both t) [] m
  made (i ∷ is) (j ∷ js) t k x m =
      let u = pair_at [] (as_one G.codes) i j t in
      let more = paired G.codes (each (at t) is) (each (at t) js) in
      let ih = made is js u (next i j is js t k) x m in
      let same : Made is js u ≡ keep both u ++ more =
      ap₂ (λ (ps qs : List (List ℕ)). keep both u ++ paired G.codes ps qs) (each_stays is t u (stays_ours i j is js t k)) (each_stays js t u (stays_theirs i j is js t k)) in
      ⊎_elim (λ h. ⊎_elim (λ e. has_append_right x (keep both t) (pair i j is js t k ∷ more) (inl e)) (has_append_left x (keep both t) (pair i j is js t k ∷ more)) (both_next i j is js t k x h))
      (λ h. has_append_right x (keep both t) (pair i j is js t k ∷ more) (inr h))
      (has_append_cases x (keep both u) more (subst (Has x) same ih))

  made_back : (is js : List ℕ) (t : List (List ℕ)) → Ready is js t → (x : List ℕ) → Has x (Made is js t) → Has x (keep both (pair_all [] (as_one G.codes) is js t))
  made_back [] js t k x m = nothing_more t x m
  made_back (i ∷ is) [] t k x m = nothing_more t x m
  made_back (i ∷ is) (j ∷ js) t k x m =
      let u = pair_at [] (as_one G.codes) i j t in
      let more = paired G.codes (each (at t) is) (each (at t) js) in
      let same : Made is js u ≡ keep both u ++ more =
      ap₂ (λ (ps qs : List (List ℕ)). keep both u ++ paired G.codes ps qs) (each_stays is t u (stays_ours i j is js t k)) (each_stays js t u (stays_theirs i j is js t k)) in
      made_back is js u (next i j is js t k) x
      (subst (Has x) (sym same)
      (⊎_elim (λ h. has_append_left x (keep both u) more (next_both i j is js t k x (inr h)))
      (λ h. ⊎_elim (λ e. has_append_left x (keep both u) more (next_both i j is js t k x (inl e))) (has_append_right x (keep both u) more) h)
      (has_append_cases x (keep both t) (pair i j is js t k ∷ more) m)))

  heads_all : (is js : List ℕ) (t : List (List ℕ)) → Ready is js t → each head_of (pair_all [] (as_one G.codes) is js t) ≡ each head_of t
  heads_all [] js t k = refl
  heads_all (i ∷ is) [] t k = refl
  heads_all (i ∷ is) (j ∷ js) t k = heads_all is js (pair_at [] (as_one G.codes) i j t) (next i j is js t k) ∙ heads_stay i j is js t k

  -- THEOREM: components that share out the codes, paired by their places: those with both are the parts made of them
  pub pairs_made : (gs : List (List ℕ)) → Parting G.codes gs → BySmallest gs →
      keep both (pair_all [] (as_one G.codes) (places_of [] starting gs) (places_of [] ending gs) gs) ≡ made_parts G gs
  unfolding made_parts
  pairs_made gs k small =
      let is = places_of [] starting gs in
      let js = places_of [] ending gs in
      let ready : Ready is js gs =
      record {
        entries = λ p m. record { inside = λ c i. k.inside c (flat_has c p gs m i); some = k.some p m; picked = k.picked p m };
        order = small;
        ours = place_is [] starting gs;
        theirs = place_is [] ending gs;
        once = distinct_keep (λ i. starting (at gs i)) (from 0 (length gs)) (distinct_from (length gs) 0);
        once_theirs = distinct_keep (λ i. ending (at gs i)) (from 0 (length gs)) (distinct_from (length gs) 0);
      } in
      let unordered = keep both gs ++ paired G.codes (keep starting gs) (keep ending gs) in
      let same : Made is js gs ≡ unordered = ap₂ (λ (ps qs : List (List ℕ)). keep both gs ++ paired G.codes ps qs) (at_places [] starting gs) (at_places [] ending gs) in
      smallest_same (keep both (pair_all [] (as_one G.codes) is js gs)) (made_parts G gs)
      (smallest_keep both (pair_all [] (as_one G.codes) is js gs) (subst Ascending (sym (heads_all is js gs ready)) small))
      (made_smallest G gs k)
      (λ x m. has_ordered ltb unordered x (subst (Has x) same (made is js gs ready x m)))
      (λ x m. made_back is js gs ready x (subst (Has x) (sym same) (ordered_has ltb unordered x m)))
