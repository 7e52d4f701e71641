-- Parts made of components, on sets and as the rules have them. Over any number of codes m.
use mathlib.Core.Path.{◌≡◌, refl, sym, ◌∙◌, ap, ap₂, subst, fun_ext}
use mathlib.Core.Logic.{inl}
use mathlib.Core.List.{List, [], ◌∷◌}
use mathlib.Core.Bool.{Bool, true, not, ◌&&◌}
use Prim.Native.Nat.{ℕ, zero, suc, ◌^◌, ◌≤◌, ◌<◌}
use native.Mathlib.Omega.{arith}
use lib.Bits.{bit_or}
use lib.ListN.{length, take, get_or, set, length-take}
use Rattle.rules.specs.Words.{any, keep, each, mem, from}
use Rattle.rules.specs.Mining.{Rel, components, not_both, has_start, has_end, as_one, made_parts, with_rest, parallel_parts}
use Rattle.rules.proofs.BoolLaws.{and_comm, and_cases}
use Rattle.rules.proofs.ListLaws.{Has, from_has, keep_both, keep_ext, each_has, length_each, flat_has}
use Rattle.rules.proofs.FilterLaws.{keep_each, any_each}
use Rattle.rules.proofs.Distinct.{distinct_keep, distinct_from}
use Rattle.rules.proofs.SmallestFirst.{components_smallest}
use Rattle.rules.proofs.Cuts.{Parting, components_parting}
use Rattle.rules.proofs.ParallelParts.{made_laid}
use Rattle.code_sets.specs.Bits.{has, listed}
use Rattle.code_sets.proofs.ListedLaws.{has_listed, listed_has, mem_listed}
use Rattle.code_sets.proofs.HeadLaws.{listed_ascending}
use Rattle.cut_parts.specs.Sets.{meets}
use Rattle.cut_parts.proofs.SetLaws.{meets_listed}
use Rattle.cut_components.proofs.BondLaws.{drawn}
use Rattle.cut_pairs.specs.Pairs.{places_of, pair_all}
use Rattle.cut_pairs.proofs.PairLaws.{place_is, pairs_made, starting, ending}
use Rattle.cut_pairs.proofs.SetPairs.{Below, Kept, at_listed, pairs_front, pairs_listed, union_listed}
use Rattle.cut_parallel.specs.Making.{only, made_on}

-- the places of sets that pass are those of their lists
places_listed : (m : ℕ) (f : ℕ → Bool) (h : List ℕ → Bool) → ((p : ℕ) → f p ≡ h (listed m p)) → (sets : List ℕ) → places_of 0 f sets ≡ places_of [] h (each (listed m) sets)
places_listed m f h e sets =
    keep_ext (λ i. f (get_or sets i 0)) (λ i. h (get_or (each (listed m) sets) i [])) (from 0 (length sets)) (λ i _. e (get_or sets i 0) ∙ ap h (sym (at_listed m 0 sets i)))
    ∙ ap (λ (n : ℕ). keep (λ i. h (get_or (each (listed m) sets) i [])) (from 0 n)) (sym (length_each (listed m) sets))

module _ (m kept : ℕ) (edge : Rel) (starts ends : ℕ) (ls : starts < 2 ^ m) (le : ends < 2 ^ m) (sets : List ℕ)
    (parts : each (listed m) sets ≡ components (not_both edge) (listed m kept)) where
  abbrev groups : List (List ℕ)
  groups = components (not_both edge) (listed m kept)

  parting : Parting (listed m kept) groups
  unfolding listed
  parting = components_parting (not_both edge) (listed m kept) (distinct_keep (has kept) (from 0 m) (distinct_from m 0))

  -- the codes of a component are kept
  sets_kept : (x : ℕ) → Has x sets → Kept m kept x
  sets_kept x i c l h =
      (has_listed m kept c
      (parting.inside c (flat_has c (listed m x) groups (subst (Has (listed m x)) parts (each_has (listed m) x sets i)) (listed_has m x c l h)))).1

  -- THEOREM: the parts made of the sets of components are those of the rules
  pub made_right : each (listed m) (made_on starts ends sets) ≡ made_parts (drawn m kept edge starts ends) groups
  unfolding made_on
  made_right =
      let G = drawn m kept edge starts ends in
      let start : (p : ℕ) → meets starts p ≡ has_start G (listed m p) = λ p. meets_listed m starts p ls in
      let end : (p : ℕ) → meets ends p ≡ has_end G (listed m p) = λ p. meets_listed m ends p le in
      let is = places_of 0 (only starts ends) sets in
      let js = places_of 0 (only ends starts) sets in
      let T = pair_all 0 bit_or is js sets in
      let up = listed_ascending m kept in
      let ours = places_listed m (only starts ends) (starting G up) (λ p. ap₂ (λ (a b : Bool). a && not b) (start p) (end p)) sets in
      let theirs = places_listed m (only ends starts) (ending G up) (λ p. and_comm (meets ends p) (not (meets starts p)) ∙ ap₂ (λ (a b : Bool). not a && b) (start p) (end p)) sets in
      ap (each (listed m)) (keep_ext (λ p. meets starts p && meets ends p) (λ p. has_start G (listed m p) && has_end G (listed m p)) T (λ p _. ap₂ ◌&&◌ (start p) (end p)))
      ∙ sym (keep_each (λ p. has_start G p && has_end G p) (listed m) T)
      ∙ ap (keep (λ p. has_start G p && has_end G p))
      (pairs_listed m kept is js sets (λ i h. (place_is 0 (only starts ends) sets i h).0) (λ i h. (place_is 0 (only ends starts) sets i h).0) sets_kept
      ∙ ap₂ (λ (xs ys : List ℕ). pair_all [] (as_one (listed m kept)) xs ys (each (listed m) sets)) ours theirs
      ∙ ap (λ (gs : List (List ℕ)). pair_all [] (as_one (listed m kept)) (places_of [] (starting G up) gs) (places_of [] (ending G up) gs) gs) parts)
      ∙ pairs_made G up groups parting (components_smallest (not_both edge) (listed m kept) up)

  -- so their codes are kept
  pub made_inside : (p : List ℕ) → Has p (each (listed m) (made_on starts ends sets)) → (c : ℕ) → Has c p → Has c (listed m kept)
  made_inside p i = (made_laid (drawn m kept edge starts ends) groups parting).inside p (subst (Has p) made_right i)

  -- THEOREM: with what remains in the first they are the parts of parallel
  pub parallel_right : (ps qs : List (List ℕ)) → ps ≡ each (listed m) (made_on starts ends sets) → qs ≡ with_rest (listed m kept) ps → qs ≡ parallel_parts (drawn m kept edge starts ends)
  unfolding parallel_parts
  parallel_right ps qs e f = f ∙ ap (with_rest (listed m kept)) (e ∙ made_right)

-- ---- what remains joins the first

and_left : (a b : Bool) → (a && b) ≡ true → a ≡ true
and_left a b h = (and_cases a b h).0

remain : (m rest codes : ℕ) (t : ℕ → Bool) → ((c : ℕ) → c < m → has rest c ≡ (has codes c && t c)) → listed m rest ≡ keep t (listed m codes)
unfolding listed
remain m rest codes t h =
    keep_ext (has rest) (λ c. has codes c && t c) (from 0 m) (λ c i. let l = from_has m 0 c i in h c (omega arith)) ∙ sym (keep_both t (has codes) (from 0 m))

module _ (m codes : ℕ) where
  pub rest_right : (p rest : ℕ) (sets : List ℕ) → ((q : List ℕ) → Has q (each (listed m) (p ∷ sets)) → (c : ℕ) → Has c q → Has c (listed m codes)) →
      ((c : ℕ) → has rest c ≡ (has codes c && not (any (λ q. has q c) (p ∷ sets)))) → each (listed m) (bit_or p rest ∷ sets) ≡ with_rest (listed m codes) (each (listed m) (p ∷ sets))
  rest_right p rest sets inside h =
      let lists = each (listed m) (p ∷ sets) in
      let low : (c : ℕ) → c < m → any (mem c) lists ≡ any (λ q. has q c) (p ∷ sets) =
      λ c l. any_each (mem c) (listed m) (p ∷ sets) ∙ ap (λ (t : ℕ → Bool). any t (p ∷ sets)) (fun_ext (λ (q : ℕ). mem_listed m q c l)) in
      let kept_p : Kept m codes p = λ c l t. (has_listed m codes c (inside (listed m p) (inl refl) c (listed_has m p c l t))).1 in
      let kept_r : Kept m codes rest = λ c l t. and_left (has codes c) (not (any (λ q. has q c) (p ∷ sets))) (sym (h c) ∙ t) in
      ap (λ (x : List ℕ). x ∷ each (listed m) sets)
      (union_listed m codes p rest kept_p kept_r ∙ ap (as_one (listed m codes) (listed m p)) (remain m rest codes (λ c. not (any (mem c) lists)) (λ c l. h c ∙ ap (λ (b : Bool). has codes c && not b) (sym (low c l)))))

  -- THEOREM: the codes that remain, put to the first of the first n sets
  pub rest_joined : (n rest : ℕ) (sets : List ℕ) → n ≤ length sets → ((q : List ℕ) → Has q (each (listed m) (take n sets)) → (c : ℕ) → Has c q → Has c (listed m codes)) →
      ((c : ℕ) → has rest c ≡ (has codes c && not (any (λ q. has q c) (take n sets)))) →
      each (listed m) (take n (set sets 0 (bit_or (get_or sets 0 0) rest))) ≡ with_rest (listed m codes) (each (listed m) (take n sets))
  rest_joined zero rest sets room inside h = refl
  rest_joined (suc n) rest [] room inside h = absurd (omega arith)
  rest_joined (suc n) rest (p ∷ sets) room inside h = rest_right p rest (take n sets) inside h

-- THEOREM: what is made of the first n sets: the places of those with only starts and of those with only ends, their pairs, and those with both
pub made_of : (m starts ends n : ℕ) (sets : List ℕ) (a b : ℕ) (paired made : List ℕ) →
    listed m a ≡ places_of 0 (only starts ends) (take n sets) → listed m b ≡ places_of 0 (only ends starts) (take n sets) →
    paired ≡ pair_all 0 bit_or (listed m a) (listed m b) sets → made ≡ keep (λ p. meets starts p && meets ends p) (take n paired) → made ≡ made_on starts ends (take n sets)
unfolding made_on
made_of m starts ends n sets a b paired made ea eb ep em =
    let size = length-take n sets in
    let below : (f : ℕ → Bool) (x : ℕ) → listed m x ≡ places_of 0 f (take n sets) → Below (listed m x) n = λ f x e i h. let l = (place_is 0 f (take n sets) i (subst (Has i) e h)).0 in omega arith in
    em
    ∙ ap (keep (λ p. meets starts p && meets ends p))
    (ap (take n) ep ∙ pairs_front n (listed m a) (listed m b) sets (below (only starts ends) a ea) (below (only ends starts) b eb)
    ∙ ap₂ (λ (is js : List ℕ). pair_all 0 bit_or is js (take n sets)) ea eb)
