-- A code joins parts: what is done to sets is what the rules do to lists of codes. Over any number of codes m.
use mathlib.Core.Path.{◌≡◌, refl, sym, ◌∙◌, ap, ap₂, subst}
use mathlib.Core.Logic.{⊎_elim}
use mathlib.Core.List.{List, [], ◌∷◌, ◌++◌, append_assoc, append-nil}
use mathlib.Core.Bool.{Bool, true, false, not, ◌&&◌, ◌||◌}
use Prim.Native.Nat.{ℕ, suc, ◌+◌, ◌-◌, ◌^◌, ◌≤◌, ◌<◌}
use native.Mathlib.Omega.{arith}
use native.Mathlib.Nat.{zero-add}
use lib.Dec.{eqb}
use lib.Bits.{bit_or}
use borrow.Author.Tests.{eq-eqb, ne_eqb}
use Rattle.rules.specs.Words.{pick, any, push, keep, each, flat, mem, from}
use Rattle.rules.specs.Mining.{Rel, join, components}
use Rattle.rules.proofs.BoolLaws.{bool_ext, bool_cases, or_left, or_off, or_assoc, and_both, and_cases}
use Rattle.rules.proofs.ListLaws.{Has, any_has, has_any, has_keep, flat_has, has_flat, mem_has, has_mem, each_has, has_each, keep_both, keep_ext, keep_none, keep_append, from_has, from_down}
use Rattle.rules.proofs.FilterLaws.{any_ext, keep_each, from_append}
use Rattle.code_sets.specs.Bits.{has, listed}
use Rattle.code_sets.proofs.BitLaws.{has_or, has_pow}
use Rattle.code_sets.proofs.ListedLaws.{has_listed, listed_has}
use Rattle.rules.proofs.Components.{parts_in}
use Rattle.cut_parts.specs.Sets.{meets}
use Rattle.cut_parts.proofs.SetLaws.{meets_listed}
use Rattle.cut_components.specs.Joined.{join_on}

-- the union of sets
pub union : ℕ → List ℕ → ℕ
union w [] = w
union w (p ∷ ps) = union (bit_or w p) ps

union_has : (c w : ℕ) (ps : List ℕ) → has (union w ps) c ≡ (has w c || any (λ p. has p c) ps)
unfolding union
union_has c w [] = sym (or_off (has w c))
union_has c w (p ∷ ps) =
    union_has c (bit_or w p) ps ∙ ap (λ (t : Bool). t || any (λ q. has q c) ps) (has_or w p c) ∙ or_assoc (has w c) (has p c) (any (λ q. has q c) ps)

joined_by_lem : (b : Bool) (w p : ℕ) (os l r K N : List ℕ) → l ≡ union (bit_or w p) K ∷ (os ++ N) → r ≡ union w K ∷ ((os ++ (p ∷ [])) ++ N) →
    pick b l r ≡ union w (push b p K) ∷ (os ++ push (not b) p N)
unfolding union
joined_by_lem true w p os l r K N e f = e
joined_by_lem false w p os l r K N e f = f ∙ ap (λ (u : List ℕ). union w K ∷ u) (append_assoc os (p ∷ []) N)

-- the sets that meet the row in one, then the others
joined_is : (row w : ℕ) (os ps : List ℕ) → join_on row w os ps ≡ union w (keep (meets row) ps) ∷ (os ++ keep (λ p. not (meets row p)) ps)
unfolding union
joined_is row w os [] = ap (λ (u : List ℕ). w ∷ u) (sym (append-nil os))
joined_is row w os (p ∷ ps) =
    joined_by_lem (meets row p) w p os (join_on row (bit_or w p) os ps) (join_on row w (os ++ (p ∷ [])) ps) (keep (meets row) ps) (keep (λ q. not (meets row q)) ps)
    (joined_is row (bit_or w p) os ps) (joined_is row w (os ++ (p ∷ [])) ps)

-- the codes of some sets
flat_listed : (m c : ℕ) (ps : List ℕ) → c < m → mem c (flat (each (listed m) ps)) ≡ any (λ p. has p c) ps
flat_listed m c ps l =
    bool_ext (mem c (flat (each (listed m) ps))) (any (λ p. has p c) ps)
    (λ h. let k = has_flat c (each (listed m) ps) (mem_has c (flat (each (listed m) ps)) h) in
    let q = has_each (listed m) k.0 ps k.1 in
    any_has (λ p. has p c) q.0 ps q.1 (has_listed m q.0 c (subst (Has c) q.2 k.2)).1)
    (λ h. let k = has_any (λ p. has p c) ps h in
    has_mem c (flat (each (listed m) ps)) (flat_has c (listed m k.0) (each (listed m) ps) (each_has (listed m) k.0 ps k.1) (listed_has m k.0 c l k.2)))

module _ (m : ℕ) (r : Rel) (w x n : ℕ) (size : x + suc n ≡ m) (row : ℕ) (fits : row < 2 ^ m) (same : (c : ℕ) → c < m → has row c ≡ r x c) (ps : List ℕ)
    (after : (p : ℕ) → Has p ps → (c : ℕ) → c < m → has p c ≡ true → Has c (keep (has w) (from (suc x) n))) where
  met_any : (p : ℕ) → any (r x) (listed m p) ≡ meets row p
  met_any p = any_ext (r x) (has row) (listed m p) (λ c i. sym (same c (has_listed m p c i).0)) ∙ sym (meets_listed m row p fits)

  abbrev met : List ℕ
  met = keep (meets row) ps

  kept_met : keep (any (r x)) (each (listed m) ps) ≡ each (listed m) met
  kept_met = keep_each (any (r x)) (listed m) ps ∙ ap (each (listed m)) (keep_ext (λ p. any (r x) (listed m p)) (meets row) ps (λ p i. met_any p))

  kept_unmet : keep (λ g. not (any (r x) g)) (each (listed m) ps) ≡ each (listed m) (keep (λ p. not (meets row p)) ps)
  kept_unmet =
      keep_each (λ g. not (any (r x) g)) (listed m) ps
      ∙ ap (each (listed m)) (keep_ext (λ p. not (any (r x) (listed m p))) (λ p. not (meets row p)) ps (λ p i. ap not (met_any p)))

  -- the codes of the joined set
  whole_has : (c : ℕ) → has (union (2 ^ x) met) c ≡ (eqb c x || any (λ p. has p c) met)
  whole_has c = union_has c (2 ^ x) met ∙ ap (λ (t : Bool). t || any (λ p. has p c) met) (has_pow x c)

  met_after : (c : ℕ) → c < m → any (λ p. has p c) met ≡ true → Has c (keep (has w) (from (suc x) n))
  met_after c l h = let k = has_any (λ p. has p c) met h in after k.0 (has_keep (meets row) k.0 ps k.1).0 c l k.2

  whole_before : (c : ℕ) → Has c (from 0 x) → has (union (2 ^ x) met) c ≡ false
  whole_before c i =
      let l = from_has x 0 c i in
      whole_has c ∙ ap (λ (t : Bool). t || any (λ p. has p c) met) (ne_eqb c x (λ e. omega arith))
      ∙ ⊎_elim
      (λ (h : any (λ p. has p c) met ≡ true). absurd (let k = from_has n (suc x) c (has_keep (has w) c (from (suc x) n) (met_after c (omega arith) h)).0 in omega arith))
      (λ (h : any (λ p. has p c) met ≡ false). h) (bool_cases (any (λ p. has p c) met))

  whole_later : (c : ℕ) → Has c (from (suc x) n) → has (union (2 ^ x) met) c ≡ (has w c && mem c (flat (each (listed m) met)))
  whole_later c i =
      let l = from_has n (suc x) c i in
      whole_has c ∙ ap (λ (t : Bool). t || any (λ p. has p c) met) (ne_eqb c x (λ e. omega arith))
      ∙ bool_ext (any (λ p. has p c) met) (has w c && mem c (flat (each (listed m) met)))
      (λ h. and_both (has w c) (mem c (flat (each (listed m) met))) (has_keep (has w) c (from (suc x) n) (met_after c (omega arith) h)).1 (flat_listed m c met (omega arith) ∙ h))
      (λ h. sym (flat_listed m c met (omega arith)) ∙ (and_cases (has w c) (mem c (flat (each (listed m) met))) h).1)

  whole_is : listed m (union (2 ^ x) met) ≡ x ∷ keep (λ c. mem c (flat (each (listed m) met))) (keep (has w) (from (suc x) n))
  unfolding listed
  whole_is =
      let u = union (2 ^ x) met in
      ap (λ (k : ℕ). keep (has u) (from 0 k)) (sym size) ∙ ap (keep (has u)) (from_append x (suc n) 0 ∙ ap (λ (k : ℕ). from 0 x ++ from k (suc n)) (zero-add x))
      ∙ keep_append (has u) (from 0 x) (from x (suc n))
      ∙ ap₂ ◌++◌ (keep_none (has u) (from 0 x) whole_before) (ap (λ (b : Bool). push b x (keep (has u) (from (suc x) n))) (whole_has x ∙ or_left (eqb x x) (any (λ p. has p x) met) (eq-eqb x x refl)))
      ∙ ap (λ (t : List ℕ). x ∷ t) (keep_ext (has u) (λ c. has w c && mem c (flat (each (listed m) met))) (from (suc x) n) whole_later ∙ sym (keep_both (λ c. mem c (flat (each (listed m) met))) (has w) (from (suc x) n)))

  -- THEOREM: the sets joined are the parts joined
  pub join_is : each (listed m) (join_on row (2 ^ x) [] ps) ≡ join r x (keep (has w) (from (suc x) n)) (each (listed m) ps)
  unfolding join
  join_is =
      ap (each (listed m)) (joined_is row (2 ^ x) [] ps)
      ∙ ap₂ ◌∷◌ whole_is (sym kept_unmet)
      ∙ ap (λ (gs : List (List ℕ)). (x ∷ keep (λ c. mem c (flat gs)) (keep (has w) (from (suc x) n))) ∷ keep (λ g. not (any (r x) g)) (each (listed m) ps)) (sym kept_met)

-- ---- the loop over the codes, from the largest to the smallest

module _ (m : ℕ) (r : Rel) (w k j : ℕ) (s : j + 1 ≡ k) (l : k ≤ m) where
  -- THEOREM: the turn at a code of the set
  pub turn_code : (row : ℕ) → row < 2 ^ m → ((c : ℕ) → c < m → has row c ≡ r j c) → (ps : List ℕ) → has w j ≡ true →
      each (listed m) ps ≡ components r (keep (has w) (from k (m - k))) → each (listed m) (join_on row (2 ^ j) [] ps) ≡ components r (keep (has w) (from j (m - j)))
  unfolding components
  turn_code row fits same ps h e =
      let t : suc j ≡ k = omega arith in
      let later : keep (has w) (from (suc j) (m - k)) ≡ keep (has w) (from k (m - k)) = ap (λ (i : ℕ). keep (has w) (from i (m - k))) t in
      let f : each (listed m) ps ≡ components r (keep (has w) (from (suc j) (m - k))) = e ∙ ap (components r) (sym later) in
      join_is m r w j (m - k) (omega arith) row fits same ps
      (λ p i c d g. parts_in r (keep (has w) (from (suc j) (m - k))) c
      (subst (λ (gs : List (List ℕ)). Has c (flat gs)) f (flat_has c (listed m p) (each (listed m) ps) (each_has (listed m) p ps i) (listed_has m p c d g))))
      ∙ ap (join r j (keep (has w) (from (suc j) (m - k)))) f
      ∙ ap (λ (xs : List ℕ). components r (j ∷ xs)) later
      ∙ ap (λ (b : Bool). components r (push b j (keep (has w) (from k (m - k))))) (sym h)
      ∙ ap (λ (xs : List ℕ). components r (keep (has w) xs)) (sym (from_down m k j s l))

  -- the turn at another code
  pub turn_other : (gs : List (List ℕ)) → has w j ≡ false → gs ≡ components r (keep (has w) (from k (m - k))) → gs ≡ components r (keep (has w) (from j (m - j)))
  turn_other gs h e =
      e ∙ ap (λ (b : Bool). components r (push b j (keep (has w) (from k (m - k))))) (sym h)
      ∙ ap (λ (xs : List ℕ). components r (keep (has w) xs)) (sym (from_down m k j s l))
