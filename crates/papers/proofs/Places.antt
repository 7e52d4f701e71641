-- Parts by their places: Σi.
use mathlib.Core.Path.{◌≡◌, refl, sym, ap, subst}
use mathlib.Core.Logic.{◌≢◌, inl, inr, ⊎_elim}
use mathlib.Core.List.{List, [], ◌∷◌}
use mathlib.Core.Bool.{true, false}
use Prim.Native.Nat.{ℕ, zero, suc, ◌<◌}
use native.Mathlib.Omega.{arith}
use lib.ListN.{length}
use lib.Dec.{eqb}
use borrow.Author.Tests.{eqb-true, eqb-false}
use Rattle.rules.specs.Words.{flat}
use Rattle.rules.specs.Mining.{Rel}
use Rattle.rules.proofs.BoolLaws.{bool_cases}
use Rattle.rules.proofs.ListLaws.{Has, flat_has, has_flat}
use Rattle.rules.proofs.Distinct.{Apart}
use Rattle.rules.proofs.Joining.{InOrder}
use Rattle.papers.specs.Cuts.{Σ}

-- a part that has a code stands in the list
pub part_has : (ps : List (List ℕ)) (i a : ℕ) → Has a (Σ ps i) → Has (Σ ps i) ps
part_has [] i a h = absurd h
part_has (p ∷ ps) zero a h = inl refl
part_has (p ∷ ps) (suc i) a h = inr (part_has ps i a h)

pub part_flat : (ps : List (List ℕ)) (i a : ℕ) → Has a (Σ ps i) → Has a (flat ps)
part_flat ps i a h = flat_has a (Σ ps i) ps (part_has ps i a h) h

-- each part has a place
pub place_of : (ps : List (List ℕ)) (p : List ℕ) → Has p ps → (i : ℕ) × (Σ ps i ≡ p)
place_of [] p m = absurd m
place_of (q ∷ ps) p (inl e) = (0, sym e)
place_of (q ∷ ps) p (inr m) = let k = place_of ps p m in (suc k.0, k.1)

pub flat_part : (ps : List (List ℕ)) (a : ℕ) → Has a (flat ps) → (i : ℕ) × Has a (Σ ps i)
flat_part ps a h =
    let k = has_flat a ps h in let q = place_of ps k.0 k.1 in (q.0, subst (Has a) (sym q.1) k.2)

pub part_below : (ps : List (List ℕ)) (i : ℕ) → i < length ps → Has (Σ ps i) ps
part_below [] i h = absurd (omega arith)
part_below (p ∷ ps) zero h = inl refl
part_below (p ∷ ps) (suc i) h = inr (part_below ps i (omega arith))

-- no code stands at two places
pub apart_at : (ps : List (List ℕ)) → Apart ps → (i j : ℕ) → i ≢ j → (a : ℕ) → Has a (Σ ps i) → Has a (Σ ps j) → ⊥
apart_at [] k i j n a h g = h
apart_at (p ∷ ps) k zero zero n a h g = n refl
apart_at (p ∷ ps) k zero (suc j) n a h g = k.0 a h (part_flat ps j a g)
apart_at (p ∷ ps) k (suc i) zero n a h g = k.0 a g (part_flat ps i a h)
apart_at (p ∷ ps) k (suc i) (suc j) n a h g = apart_at ps k.1 i j (λ e. n (ap suc e)) a h g

-- an earlier place is ahead of a later one
pub order_at : (r : Rel) (ps : List (List ℕ)) → InOrder r ps → (i j : ℕ) → i < j → (a b : ℕ) → Has a (Σ ps i) → Has b (Σ ps j) → (r a b ≡ true) × (r b a ≡ false)
order_at r [] o i j h a b x y = absurd x
order_at r (p ∷ ps) o zero zero h a b x y = absurd (omega arith)
order_at r (p ∷ ps) o zero (suc j) h a b x y = o.0 a b x (part_flat ps j b y)
order_at r (p ∷ ps) o (suc i) zero h a b x y = absurd (omega arith)
order_at r (p ∷ ps) o (suc i) (suc j) h a b x y = order_at r ps o.1 i j (omega arith) a b x y

-- two places are one where they cannot be two
pub same_place : (i j : ℕ) → (i ≢ j → ⊥) → i ≡ j
same_place i j h =
    ⊎_elim (λ (e : eqb i j ≡ true). eqb-true i j e) (λ (e : eqb i j ≡ false). absurd (h (eqb-false i j e))) (bool_cases (eqb i j))
