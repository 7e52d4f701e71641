-- Mining without a bound on the depth: the tree of a log is built from the trees of its parts' logs.
use mathlib.Core.Path.{◌≡◌, refl, sym, ◌∙◌, ap}
use mathlib.Core.List.{List, [], ◌∷◌}
use mathlib.Core.Logic.{inl, inr}
use Prim.Native.Nat.{ℕ, zero, suc, ◌<◌}
use native.Mathlib.Omega.{arith}
use lib.ListN.{length}
use Rattle.rules.specs.Trees.{Tree, node, more}
use Rattle.rules.specs.Mining.{Log, occurring, graph, parts_of, shape, split, grow, build, mine, mined}
use Rattle.rules.proofs.ListLaws.{Has}
use Rattle.rules.proofs.Occurring.{Below, occurring_few}
use Rattle.rules.proofs.Splits.{split_below}
use Rattle.rules.proofs.Shapes.{shape_cases, fewer}

pub grow_same : (f g : List ℕ → Tree) (ps : List (List ℕ)) → ((p : List ℕ) → Has p ps → f p ≡ g p) → grow f ps ≡ grow g ps
grow_same f g [] h = refl
grow_same f g (p ∷ ps) h = λ i. more (h p (inl refl) i) (grow_same f g ps (λ q j. h q (inr j)) i)

module _ (m : ℕ) where
  deeper : (n : ℕ) (l : Log) → Below m l → length (occurring m l) < suc n → ((k : Log) → Below m k → length (occurring m k) < n → mine m (suc n) k ≡ mine m n k) →
      build (mine m (suc n)) l (shape m l) ≡ build (mine m n) l (shape m l)
  unfolding build
  deeper n l s h below =
      shape_cases m l s (λ z. build (mine m (suc n)) l z ≡ build (mine m n) l z) (λ _. refl) (λ a i _. refl) (λ c i _. refl)
      (λ o k. ap (node o)
      (grow_same (λ p. mine m (suc n) (split o p l)) (λ p. mine m n (split o p l)) (parts_of o (graph m l))
      (λ p i. below (split o p l) (split_below m o p l s) (let a = fewer m l s o k p i in omega arith))))

  -- THEOREM: a depth above the number of codes is as good as any
  pub deep_enough : (n : ℕ) (l : Log) → Below m l → length (occurring m l) < n → mine m (suc n) l ≡ mine m n l
  unfolding mine
  deep_enough zero l s h = absurd (omega arith)
  deep_enough (suc n) l s h = deeper n l s h (deep_enough n)

  -- THEOREM: the tree of a log is what its shape says, built from the trees of its parts' logs
  pub mined_is : (l : Log) → Below m l → mined m l ≡ build (mined m) l (shape m l)
  unfolding mined
  mined_is l s = let h = occurring_few m l in sym (deep_enough (suc m) l s (omega arith)) ∙ unfold mine in refl
