-- The codes that no part has: the turns of the loop that takes them away part by part.
use mathlib.Core.Path.{◌≡◌, refl, sym, ◌∙◌, ap}
use mathlib.Core.List.{List}
use mathlib.Core.Bool.{Bool, true, false, not, ◌&&◌, ◌||◌}
use Prim.Native.Nat.{ℕ, ◌+◌, ◌-◌, ◌^◌, ◌≤◌, ◌<◌}
use lib.ListN.{length, drop, get_or}
use lib.Bits.{bit_and}
use Rattle.rules.specs.Words.{any}
use Rattle.code_sets.specs.Bits.{has}
use Rattle.code_sets.proofs.BitLaws.{has_minus}
use Rattle.std.proofs.lemmas.List.{at_drop_more, at_drop_all}

and_none : (a b c : Bool) → (a && not (b || c)) ≡ ((a && not b) && not c)
and_none true true c = refl
and_none true false c = refl
and_none false b c = refl

and_full : (a : Bool) → (a && true) ≡ a
and_full true = refl
and_full false = refl

-- the codes of kept that no set has: those that are left, and that no later set has
module _ (kept : ℕ) (ps : List ℕ) (i left : ℕ) where
  abbrev pub Left : Type 0
  Left = (c : ℕ) → (has kept c && not (any (λ p. has p c) ps)) ≡ (has left c && not (any (λ p. has p c) (drop i ps)))

  pub left_more : (m : ℕ) → i < length ps → left < 2 ^ m → get_or ps i 0 < 2 ^ m → Left →
      (c : ℕ) → (has kept c && not (any (λ p. has p c) ps)) ≡ (has (bit_and left ((2 ^ m - 1) - get_or ps i 0)) c && not (any (λ p. has p c) (drop (i + 1) ps)))
  left_more m low lb lp e c =
      e c ∙ at_drop_more (λ xs. has left c && not (any (λ p. has p c) xs)) ps i 0 low
      ∙ and_none (has left c) (has (get_or ps i 0) c) (any (λ p. has p c) (drop (i + 1) ps))
      ∙ ap (λ (b : Bool). b && not (any (λ p. has p c) (drop (i + 1) ps))) (sym (has_minus m left (get_or ps i 0) c lb lp))

  pub left_end : length ps ≤ i → Left → (c : ℕ) → has left c ≡ (has kept c && not (any (λ p. has p c) ps))
  left_end l e c = sym (e c ∙ at_drop_all (λ xs. has left c && not (any (λ p. has p c) xs)) ps i l ∙ and_full (has left c))
