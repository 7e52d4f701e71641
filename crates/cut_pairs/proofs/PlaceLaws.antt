-- Places of parts as a set, and pairs taken from two lists of places.
use mathlib.Core.Path.{◌≡◌, refl, sym, ◌∙◌, ap}
use mathlib.Core.Logic.{◌⊎◌, inl, inr}
use mathlib.Core.List.{List, [], ◌∷◌, ◌++◌}
use mathlib.Core.Bool.{Bool, ◌&&◌}
use Prim.Native.Nat.{ℕ, ◌+◌, ◌-◌, ◌≤◌}
use native.Mathlib.Omega.{arith}
use lib.Dec.{ltb}
use lib.Bits.{bit_or}
use lib.ListN.{length, get_or}
use borrow.Author.Tests.{lt-ltb, le-ltb}
use Rattle.rules.specs.Words.{keep, from}
use Rattle.rules.proofs.ListLaws.{from_has, keep_ext, keep_none, keep_append}
use Rattle.rules.proofs.FilterLaws.{from_append}
use Rattle.code_sets.specs.Bits.{has, listed}
use Rattle.cut_pairs.specs.Pairs.{places_of, pair_all}

append_none : {A : Type 0} (xs ys : List A) → ys ≡ [] → xs ++ ys ≡ xs
append_none [] ys e = e
append_none (x ∷ xs) ys e = ap (◌∷◌ x) (append_none xs ys e)

-- THEOREM: the set of the places of those that pass, as a list
pub places_are : (m r : ℕ) (f : ℕ → Bool) (sets : List ℕ) → length sets ≤ m → ((a : ℕ) → has r a ≡ (ltb a (length sets) && f (get_or sets a 0))) → listed m r ≡ places_of 0 f sets
unfolding listed
places_are m r f sets low h =
    let n = length sets in
    let size : n + (m - n) ≡ m = omega arith in
    ap (λ (k : ℕ). keep (has r) (from 0 k)) (sym size) ∙ ap (keep (has r)) (from_append n (m - n) 0)
    ∙ keep_append (has r) (from 0 n) (from (0 + n) (m - n))
    ∙ append_none (keep (has r) (from 0 n)) (keep (has r) (from (0 + n) (m - n)))
    (keep_none (has r) (from (0 + n) (m - n)) (λ a i. let l = from_has (m - n) (0 + n) a i in h a ∙ ap (λ (b : Bool). b && f (get_or sets a 0)) (le-ltb a n (omega arith))))
    ∙ keep_ext (has r) (λ i. f (get_or sets i 0)) (from 0 n) (λ a i. let l = from_has n 0 a i in h a ∙ ap (λ (b : Bool). b && f (get_or sets a 0)) (lt-ltb a n (omega arith)))

-- no place of ours, or none of theirs
pub pairs_end : (is js : List ℕ) (sets : List ℕ) → (is ≡ []) ⊎ (js ≡ []) → pair_all 0 bit_or is js sets ≡ sets
pairs_end [] js sets h = refl
pairs_end (i ∷ is) [] sets h = refl
pairs_end (i ∷ is) (j ∷ js) sets (inl e) = cc
pairs_end (i ∷ is) (j ∷ js) sets (inr e) = cc
