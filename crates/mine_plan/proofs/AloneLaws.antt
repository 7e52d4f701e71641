-- How one code alone is told.
use mathlib.Core.Path.{◌≡◌, refl, ◌∙◌, ap}
use mathlib.Core.List.{List, [], ◌∷◌}
use mathlib.Core.Bool.{Bool, false, not}
use Prim.Native.Nat.{ℕ}
use native.Mathlib.Omega.{arith}
use lib.ListN.{length}
use Rattle.rules.specs.Mining.{Rel, head_of}
use Rattle.mine_plan.specs.Plans.{lone}

module _ (e : Rel) (cs : List ℕ) where
  pub alone_one : length cs ≡ 1 → (c : ℕ) → c ≡ head_of cs → (t : Bool) → t ≡ e c c → not t ≡ lone e cs
  alone_one h c q t f = by cs h q
    where
      by : (xs : List ℕ) → length xs ≡ 1 → c ≡ head_of xs → not t ≡ lone e xs
      by [] n z = absurd (omega arith)
      by (a ∷ []) n z = ap not (f ∙ ap (λ (x : ℕ). e x x) z)
      by (a ∷ b ∷ xs) n z = absurd (omega arith)

  pub alone_not : (length cs ≡ 1 → ⊥) → false ≡ lone e cs
  alone_not h = by cs h
    where
      by : (xs : List ℕ) → (length xs ≡ 1 → ⊥) → false ≡ lone e xs
      by [] n = refl
      by (a ∷ []) n = absurd (n refl)
      by (a ∷ b ∷ xs) n = refl
