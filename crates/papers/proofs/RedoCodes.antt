-- What makes a component a redo part, said of each of its codes.
use mathlib.Core.Path.{◌≡◌, refl}
use mathlib.Core.List.{List}
use mathlib.Core.Bool.{Bool, true, false, ◌&&◌, false≢true}
use Prim.Native.Nat.{ℕ}
use Rattle.rules.specs.Words.{any, all, implies}
use Rattle.rules.specs.Mining.{Graph, is_redo}
use Rattle.rules.proofs.BoolLaws.{and_both, and_cases}
use Rattle.rules.proofs.ListLaws.{Has, any_has, has_any, all_has, has_all}

use_implies : (a b : Bool) → implies a b ≡ true → a ≡ true → b ≡ true
use_implies true b h e = h
use_implies false b h e = absurd (false≢true e)

make_implies : (a b : Bool) → (a ≡ true → b ≡ true) → implies a b ≡ true
make_implies true b f = f refl
make_implies false b f = refl

-- edges from the border leave ends, edges to it reach starts, one to any means one to every start, one from any means one from every end
pub record RedoCode (g : Graph) (border : List ℕ) (x : ℕ) : Type 0 where
  pub leaves_end : (a : ℕ) → Has a border → g.edge a x ≡ true → g.end a ≡ true
  pub reaches_start : (a : ℕ) → Has a border → g.edge x a ≡ true → g.start a ≡ true
  pub to_starts : (c a : ℕ) → Has c border → g.edge x c ≡ true → Has a border → g.start a ≡ true → g.edge x a ≡ true
  pub from_ends : (c a : ℕ) → Has c border → g.edge c x ≡ true → Has a border → g.end a ≡ true → g.edge a x ≡ true

module _ (g : Graph) (border : List ℕ) where
  abbrev sides : ℕ → ℕ → Bool
  sides x a = implies (g.edge a x) (g.end a) && implies (g.edge x a) (g.start a)

  abbrev onward : ℕ → Bool
  onward x = implies (any (g.edge x) border) (all (λ a. implies (g.start a) (g.edge x a)) border)

  abbrev back : ℕ → Bool
  back x = implies (any (λ a. g.edge a x) border) (all (λ a. implies (g.end a) (g.edge a x)) border)

  -- each code of a redo part is such a code
  pub redo_code : (p : List ℕ) → is_redo g border p ≡ true → (x : ℕ) → Has x p → RedoCode g border x
  unfolding is_redo
  redo_code p h x i =
      let k = and_cases (all (sides x) border && onward x) (back x) (all_has (λ y. all (sides y) border && onward y && back y) x p h i) in
      let q = and_cases (all (sides x) border) (onward x) k.0 in
      let side : (a : ℕ) → Has a border → (implies (g.edge a x) (g.end a) ≡ true) × (implies (g.edge x a) (g.start a) ≡ true) =
      λ a j. and_cases (implies (g.edge a x) (g.end a)) (implies (g.edge x a) (g.start a)) (all_has (sides x) a border q.0 j) in
      record {
        leaves_end = λ a j e. use_implies (g.edge a x) (g.end a) (side a j).0 e;
        reaches_start = λ a j e. use_implies (g.edge x a) (g.start a) (side a j).1 e;
        to_starts = λ c a ic e j st.
            let every = use_implies (any (g.edge x) border) (all (λ b. implies (g.start b) (g.edge x b)) border) q.1 (any_has (g.edge x) c border ic e) in
            use_implies (g.start a) (g.edge x a) (all_has (λ b. implies (g.start b) (g.edge x b)) a border every j) st;
        from_ends = λ c a ic e j en.
            let every = use_implies (any (λ b. g.edge b x) border) (all (λ b. implies (g.end b) (g.edge b x)) border) k.1 (any_has (λ b. g.edge b x) c border ic e) in
            use_implies (g.end a) (g.edge a x) (all_has (λ b. implies (g.end b) (g.edge b x)) a border every j) en;
      }

  -- a component of such codes is a redo part
  pub code_redo : (p : List ℕ) → ((x : ℕ) → Has x p → RedoCode g border x) → is_redo g border p ≡ true
  unfolding is_redo
  code_redo p f =
      has_all (λ y. all (sides y) border && onward y && back y) p
      (λ x i.
      let k = f x i in
      and_both (all (sides x) border && onward x) (back x)
      (and_both (all (sides x) border) (onward x)
      (has_all (sides x) border (λ a j. and_both (implies (g.edge a x) (g.end a)) (implies (g.edge x a) (g.start a)) (make_implies (g.edge a x) (g.end a) (k.leaves_end a j)) (make_implies (g.edge x a) (g.start a) (k.reaches_start a j))))
      (make_implies (any (g.edge x) border) (all (λ a. implies (g.start a) (g.edge x a)) border)
      (λ h. let c = has_any (g.edge x) border h in
      has_all (λ a. implies (g.start a) (g.edge x a)) border (λ a j. make_implies (g.start a) (g.edge x a) (k.to_starts c.0 a c.1 c.2 j)))))
      (make_implies (any (λ a. g.edge a x) border) (all (λ a. implies (g.end a) (g.edge a x)) border)
      (λ h. let c = has_any (λ a. g.edge a x) border h in
      has_all (λ a. implies (g.end a) (g.edge a x)) border (λ a j. make_implies (g.end a) (g.edge a x) (k.from_ends c.0 a c.1 c.2 j)))))
