-- Parts counted against components: where no component meets two parts and each part meets one that passes a test, there are no more parts than components that pass it.
use mathlib.Core.Path.{◌≡◌, refl, sym, ◌∙◌, ap, subst}
use mathlib.Core.Logic.{◌≢◌, ⊎_elim}
use mathlib.Core.List.{List, [], ◌∷◌}
use mathlib.Core.Bool.{Bool, true}
use Prim.Native.Nat.{ℕ, suc, ◌≤◌, ◌<◌}
use native.Mathlib.Omega.{arith}
use lib.ListN.{length}
use Rattle.rules.specs.Words.{keep, mem}
use Rattle.rules.specs.Mining.{Rel, components}
use Rattle.rules.proofs.BoolLaws.{bool_ext}
use Rattle.rules.proofs.ListLaws.{Has, has_keep, keep_has, keep_all, mem_has, has_mem}
use Rattle.rules.proofs.Distinct.{remove}
use Rattle.rules.proofs.Components.{Symmetric, part_in, covered, constant}
use Rattle.papers.specs.Cuts.{Σ}
use Rattle.papers.proofs.Places.{same_place}

-- g meets Σi
abbrev pub Meets : List (List ℕ) → ℕ → List ℕ → Type 0
Meets qs i g = (a : ℕ) × Has a (Σ qs i) × Has a g

-- THEOREM: parts of which each meets a group, and no two the same group, are no more than the groups
pub pigeonhole : (qs gs : List (List ℕ)) → ((i : ℕ) → i < length qs → (g : List ℕ) × Has g gs × Meets qs i g) →
    ((g : List ℕ) → Has g gs → (i j : ℕ) → Meets qs i g → Meets qs j g → i ≡ j) → length qs ≤ length gs
pigeonhole [] gs some one = omega arith
pigeonhole (q ∷ qs) gs some one =
    let k = some 0 (omega arith) in
    let r = remove k.0 gs k.1 in
    let e = r.1 in
    let ih : length qs ≤ length r.0 =
    pigeonhole qs r.0
    (λ i h.
    let n = some (suc i) (omega arith) in
    ⊎_elim
    (λ same. let z : 0 ≡ suc i = one k.0 k.1 0 (suc i) k.2 (subst (Meets qs i) same n.2) in absurd (omega arith))
    (λ there. (n.0, there, n.2))
    (r.3 n.0 n.1))
    (λ g m i j x y. let z : suc i ≡ suc j = one g (r.2 g m) (suc i) (suc j) x y in omega arith) in
    omega arith

-- related codes are in the same part
abbrev pub Kept : Rel → List ℕ → List (List ℕ) → Type 0
Kept r cs qs = (i a b : ℕ) → Has a (Σ qs i) → Has a cs → Has b cs → r a b ≡ true → Has b (Σ qs i)

module _ (r : Rel) (sy : Symmetric r) (cs : List ℕ) (qs : List (List ℕ)) (kept : Kept r cs qs) where
  -- a component with one code in a part has all of its codes there
  pub within : (i : ℕ) (g : List ℕ) → Has g (components r cs) → (a b : ℕ) → Has a g → Has b g → Has a (Σ qs i) → Has b (Σ qs i)
  within i g m a b ia ib h =
      let code = part_in r cs g m in
      mem_has b (Σ qs i)
      (sym
      (constant r (λ c. mem c (Σ qs i)) cs g m
      (λ c d ic id rel. bool_ext (mem c (Σ qs i)) (mem d (Σ qs i))
      (λ x. has_mem d (Σ qs i) (kept i c d (mem_has c (Σ qs i) x) (code c ic) (code d id) rel))
      (λ x. has_mem c (Σ qs i) (kept i d c (mem_has d (Σ qs i) x) (code d id) (code c ic) (sy c d rel)))) a b ia ib)
      ∙ has_mem a (Σ qs i) h)

  module _ (disjoint : (i j : ℕ) → i ≢ j → (a : ℕ) → Has a (Σ qs i) → Has a (Σ qs j) → ⊥) where
    -- THEOREM: disjoint parts, each with a code whose component passes a test, with related codes in the same part, are no more than the components that pass it
    pub no_more_passing : (t : List ℕ → Bool) → ((i : ℕ) → i < length qs → (a : ℕ) × Has a (Σ qs i) × Has a cs × ((g : List ℕ) → Has g (components r cs) → Has a g → t g ≡ true)) →
        length qs ≤ length (keep t (components r cs))
    no_more_passing t some =
        pigeonhole qs (keep t (components r cs))
        (λ i h. let k = some i h in let q = covered r cs k.0 k.2 in (q.0, keep_has t q.0 (components r cs) q.1 (k.3 q.0 q.1 q.2), (k.0, k.1, q.2)))
        (λ g m i j x y. same_place i j
        (λ n. disjoint i j n y.0 (within i g (has_keep t g (components r cs) m).0 x.0 y.0 x.2 y.2 x.1) y.1))

    -- THEOREM: so disjoint parts with codes are no more than the components
    pub no_more : ((i : ℕ) → i < length qs → (a : ℕ) × Has a (Σ qs i) × Has a cs) → length qs ≤ length (components r cs)
    no_more some =
        let all : List ℕ → Bool = λ g. true in
        let e = ap length (keep_all all (components r cs) (λ g m. refl)) in
        let k = no_more_passing all (λ i h. let q = some i h in (q.0, q.1, q.2, λ g m n. refl)) in
        omega arith
