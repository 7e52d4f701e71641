-- The order of parts: a set put at its place, and the fold that orders them. Over any number of codes m.
use mathlib.Core.Path.{◌≡◌, refl, sym, ◌∙◌, ap, ap₂}
use mathlib.Core.List.{List, [], ◌∷◌, ◌++◌, append_assoc}
use mathlib.Core.Bool.{Bool, true, false, cond, not}
use mathlib.Core.Logic.{⊎_elim}
use Prim.Native.Nat.{ℕ, ◌+◌, ◌≤◌, ◌<◌}
use native.Mathlib.Numerals.{one-add}
use native.Mathlib.Omega.{arith}
use lib.ListN.{length, take, drop}
use lib.Seq.{length-take-le}
use borrow.Author.Tests.{lt-ltb, le-ltb}
use Rattle.std.specs.Prelude.{Some, None, position, unwrap_or}
use Rattle.std.specs.List.{position_or_len}
use Rattle.std.proofs.lemmas.List.{nil_from_length}
use Rattle.std.proofs.lemmas.List.Sums.{prefix_len-le-length}
use Rattle.rules.specs.Words.{pick, each}
use Rattle.rules.specs.Mining.{Rel, head_of, place, place_by, ordered}
use Rattle.code_sets.specs.Bits.{has, listed}
use Rattle.code_sets.proofs.BitLaws.{lt_or_le}
use Rattle.cut_sequence.specs.Order.{place_on}

-- a set's smallest code is in the row
abbrev pub reached_at : ℕ → ℕ → ℕ → Bool
reached_at m row q = has row (head_of (listed m q))

placed : (m row p : ℕ) (qs : List ℕ) → let k = position_or_len (reached_at m row) qs in place_on m row p qs ≡ take k qs ++ (p ∷ drop k qs)
placed m row p [] = refl
placed m row p (q ∷ qs) = by (reached_at m row q) (placed m row p qs)
  where
    by : (b : Bool) → let k = position_or_len (reached_at m row) qs in let j = cond (not b) (1 + k) 0 in
        place_on m row p qs ≡ take k qs ++ (p ∷ drop k qs) → pick b (p ∷ q ∷ qs) (q ∷ place_on m row p qs) ≡ take j (q ∷ qs) ++ (p ∷ drop j (q ∷ qs))
    by true e = refl
    by false e = rw (one-add (position_or_len (reached_at m row) qs)) (ap (◌∷◌ q) e)

-- THEOREM: a set put before the first that is reached, or last
pub placed_first : (m row n : ℕ) (sets : List ℕ) (i : ℕ) → n ≤ length sets → i ≡ unwrap_or (position (reached_at m row) (take n sets)) n →
    (i ≤ n) × ((p : ℕ) → place_on m row p (take n sets) ≡ take i (take n sets) ++ (p ∷ drop i (take n sets)))
placed_first m row n sets i room e =
    let k = position_or_len (reached_at m row) (take n sets) in
    let size = length-take-le n sets room in
    let few = prefix_len-le-length (λ q. not (reached_at m row q)) (take n sets) in
    let at : i ≡ k = e ∙ ⊎_elim
    (λ (l : k < length (take n sets)). ap (λ (b : Bool). unwrap_or (cond b (Some k) None) n) (lt-ltb k (length (take n sets)) l))
    (λ (l : length (take n sets) ≤ k). ap (λ (b : Bool). unwrap_or (cond b (Some k) None) n) (le-ltb k (length (take n sets)) l) ∙ (let z : n ≡ k = omega arith in z))
    (lt_or_le k (length (take n sets))) in
    (omega arith, λ p. placed m row p (take n sets) ∙ ap (λ (j : ℕ). take j (take n sets) ++ (p ∷ drop j (take n sets))) (sym at))

-- ---- sets and parts

placed_by : (b : Bool) (m p q : ℕ) (qs later : List ℕ) → each (listed m) (pick b (p ∷ q ∷ qs) (q ∷ later)) ≡ place_by b (listed m p) (listed m q) (each (listed m) qs) (each (listed m) later)
placed_by true m p q qs later = refl
placed_by false m p q qs later = refl

place_is : (m row p : ℕ) (r : Rel) → ((c : ℕ) → has row c ≡ r (head_of (listed m p)) c) → (qs : List ℕ) → each (listed m) (place_on m row p qs) ≡ place r (listed m p) (each (listed m) qs)
place_is m row p r h [] = refl
place_is m row p r h (q ∷ qs) =
    placed_by (has row (head_of (listed m q))) m p q qs (place_on m row p qs)
    ∙ ap₂ (λ (b : Bool) (later : List (List ℕ)). place_by b (listed m p) (listed m q) (each (listed m) qs) later) (h (head_of (listed m q))) (place_is m row p r h qs)

-- of some sets from the last on: those before are left, and the later ones stand in order in `out`
pub record Sorted (m : ℕ) (r : Rel) (all left out : List ℕ) : Type 0 where
  pub later : List ℕ
  pub whole : all ≡ left ++ later
  pub order : each (listed m) out ≡ ordered r (each (listed m) later)

-- THEOREM: one more set at its place is one more part at its place
pub order_turn : (m row p : ℕ) (r : Rel) (all left left' out out' : List ℕ) → Sorted m r all left out → left ≡ left' ++ (p ∷ []) →
    ((c : ℕ) → has row c ≡ r (head_of (listed m p)) c) → out' ≡ place_on m row p out → Sorted m r all left' out'
order_turn m row p r all left left' out out' s e h o =
    record {
      later = p ∷ s.later;
      whole = s.whole ∙ ap (λ (xs : List ℕ). xs ++ s.later) e ∙ append_assoc left' (p ∷ []) s.later;
      order = ap (each (listed m)) o ∙ place_is m row p r h out ∙ ap (place r (listed m p)) s.order;
    }

-- none is left
pub order_end : (m : ℕ) (r : Rel) (all left out : List ℕ) → Sorted m r all left out → length left ≡ 0 → each (listed m) out ≡ ordered r (each (listed m) all)
order_end m r all left out s e = s.order ∙ ap (λ (xs : List ℕ). ordered r (each (listed m) xs)) (sym (s.whole ∙ ap (λ (xs : List ℕ). xs ++ s.later) (nil_from_length left e)))
