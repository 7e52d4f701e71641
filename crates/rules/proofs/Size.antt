-- The size of a mined tree: with k codes, k at least 1, at most 4 k - 1 nodes; and every operator has two children or more.
use mathlib.Core.Path.{◌≡◌, refl, ap, subst}
use mathlib.Core.Logic.{inl, inr}
use mathlib.Core.List.{List, [], ◌∷◌}
use mathlib.Core.Bool.{true}
use Prim.Native.Nat.{ℕ, zero, suc, ◌+◌, ◌*◌, ◌≤◌, ◌<◌}
use native.Mathlib.Omega.{arith}
use lib.ListN.{length, length-append}
use Rattle.rules.specs.Words.{flat}
use Rattle.rules.specs.Trees.{Tree, silent, more, size, sizes, children}
use Rattle.rules.specs.Mining.{Episode, Log, occurring, graph, parts_of, shape, shape_of, is_empty, split, leaves, grow, build, mine, mined}
use Rattle.rules.specs.WellFormed.{Wide, WideAll}
use Rattle.rules.proofs.TreeLaws.{children_two}
use Rattle.rules.proofs.ListLaws.{Has, has_all, has_length}
use Rattle.rules.proofs.Occurring.{Below, code_in, occurring_few}
use Rattle.rules.proofs.Splits.{split_below, split_occurring}
use Rattle.rules.proofs.Shapes.{shape_cases, two_length, parts_length, fewer}

leaves_size : (cs : List ℕ) → sizes (leaves cs) ≡ length cs
leaves_size [] = refl
leaves_size (c ∷ cs) = let h = leaves_size cs in omega arith

grow_size : (f : List ℕ → Tree) (ps : List (List ℕ)) → ((p : List ℕ) → Has p ps → size (f p) + 1 ≤ 4 * length p) → sizes (grow f ps) + length ps ≤ 4 * length (flat ps)
grow_size f [] h = omega arith
grow_size f (p ∷ ps) h =
    let ih = grow_size f ps (λ q i. h q (inr i)) in
    let hp = h p (inl refl) in
    let e = length-append p (flat ps) in
    omega arith

module _ (m : ℕ) where
  build_size : (sub : Log → Tree) (l : Log) → Below m l → 1 ≤ length (occurring m l) →
      ((k : Log) → Below m k → 1 ≤ length (occurring m k) → size (sub k) + 1 ≤ 4 * length (occurring m k)) → size (build sub l (shape m l)) + 1 ≤ 4 * length (occurring m l)
  unfolding build
  build_size sub l s pos below =
      shape_cases m l s (λ z. size (build sub l z) + 1 ≤ 4 * length (occurring m l)) (λ _. omega arith) (λ a i _. omega arith)
      (λ c i _. let e = leaves_size (occurring m l) in omega arith)
      (λ o k.
      let ps = parts_of o (graph m l) in
      let part : (p : List ℕ) → Has p ps → size (sub (split o p l)) + 1 ≤ 4 * length p =
      λ p i.
      let c = k.parting.some p i in
      let e : length (occurring m (split o p l)) ≡ length p = ap length (split_occurring m l s o k.parting p i) in
      let some = has_length c.0 p c.1 in
      let h = below (split o p l) (split_below m o p l s) (omega arith) in
      omega arith in
      let g = grow_size (λ p. sub (split o p l)) ps part in
      let n = two_length ps k.two in
      let d = parts_length m l ps k.parting in
      omega arith)

  mine_size : (n : ℕ) (l : Log) → Below m l → 1 ≤ length (occurring m l) → size (mine m n l) + 1 ≤ 4 * length (occurring m l)
  unfolding mine
  mine_size zero l s pos = let e = leaves_size (occurring m l) in omega arith
  mine_size (suc n) l s pos = build_size (mine m n) l s pos (mine_size n)

  -- THEOREM: with k codes that occur, k at least 1, a mined tree has at most 4 k - 1 nodes
  pub mined_size : (l : Log) → Below m l → 1 ≤ length (occurring m l) → size (mined m l) + 1 ≤ 4 * length (occurring m l)
  unfolding mined
  mined_size l s pos = mine_size (suc m) l s pos

  no_codes : (l : Log) → Below m l → occurring m l ≡ [] → (t : Episode) → Has t l → is_empty t ≡ true
  no_codes l s e [] i = refl
  no_codes l s e (x ∷ t) i = absurd (subst (Has x) e (code_in m l s (x ∷ t) i x (inl refl)))

  -- THEOREM: with no code that occurs it is silent
  pub mined_silent : (l : Log) → Below m l → occurring m l ≡ [] → mined m l ≡ silent
  unfolding mined mine shape shape_of build
  mined_silent l s e = rw (has_all is_empty l (no_codes l s e)) refl

-- ---- every operator has two children or more

leaves_children : (cs : List ℕ) → children (leaves cs) ≡ length cs
leaves_children [] = refl
leaves_children (c ∷ cs) = let h = leaves_children cs in omega arith

leaves_wide : (cs : List ℕ) → WideAll (leaves cs)
leaves_wide [] = tt
leaves_wide (c ∷ cs) = (tt, leaves_wide cs)

grow_children : (f : List ℕ → Tree) (ps : List (List ℕ)) → children (grow f ps) ≡ length ps
grow_children f [] = refl
grow_children f (p ∷ ps) = let h = grow_children f ps in omega arith

grow_wide : (f : List ℕ → Tree) (ps : List (List ℕ)) → ((p : List ℕ) → Has p ps → Wide (f p)) → WideAll (grow f ps)
grow_wide f [] h = tt
grow_wide f (p ∷ ps) h = (h p (inl refl), grow_wide f ps (λ q i. h q (inr i)))

module _ (m : ℕ) where
  build_wide : (sub : Log → Tree) (l : Log) → Below m l → ((k : Log) → Below m k → length (occurring m k) < length (occurring m l) → Wide (sub k)) → Wide (build sub l (shape m l))
  unfolding build
  build_wide sub l s below =
      shape_cases m l s (λ z. Wide (build sub l z)) (λ _. tt) (λ a i _. tt)
      (λ c i _. let n = has_length c (occurring m l) i in let e = leaves_children (occurring m l) in (children_two (more silent (leaves (occurring m l))) (omega arith), (tt, leaves_wide (occurring m l))))
      (λ o k.
      let ps = parts_of o (graph m l) in
      let n = two_length ps k.two in
      let e = grow_children (λ p. sub (split o p l)) ps in
      (children_two (grow (λ p. sub (split o p l)) ps) (omega arith), grow_wide (λ p. sub (split o p l)) ps (λ p i. below (split o p l) (split_below m o p l s) (fewer m l s o k p i))))

  mine_wide : (n : ℕ) (l : Log) → Below m l → length (occurring m l) < n → Wide (mine m n l)
  unfolding mine
  mine_wide zero l s h = absurd (omega arith)
  mine_wide (suc n) l s h = build_wide (mine m n) l s (λ k t i. mine_wide n k t (omega arith))

  -- THEOREM: every operator of a mined tree has two children or more
  pub mined_wide : (l : Log) → Below m l → Wide (mined m l)
  unfolding mined
  mined_wide l s = let h = occurring_few m l in mine_wide (suc m) l s (omega arith)
