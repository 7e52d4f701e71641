-- The redo conditions as tests on sets, over any number of codes m.
use mathlib.Core.Path.{◌≡◌, refl, sym, ◌∙◌, ap, fun_ext}
use mathlib.Core.List.{List, [], ◌∷◌}
use mathlib.Core.Bool.{Bool, true, false, ◌&&◌}
use Prim.Native.Nat.{ℕ, ◌^◌, ◌<◌}
use native.Mathlib.Nat.{lt_of_le_of_lt}
use lib.Dec.{eqb}
use lib.Bits.{bit_and, and_le_r}
use borrow.Author.Tests.{eqb-true, eq-eqb}
use Rattle.rules.specs.Words.{any, all, implies}
use Rattle.rules.specs.Mining.{Graph, is_redo}
use Rattle.rules.proofs.BoolLaws.{bool_ext, not_both_lem, and_both, and_cases}
use Rattle.rules.proofs.ListLaws.{Has, all_has, has_all, any_false}
use Rattle.code_sets.specs.Bits.{has, listed}
use Rattle.code_sets.proofs.BitLaws.{has_and, has_zero, ext}
use Rattle.code_sets.proofs.ListedLaws.{has_listed, listed_has}
use Rattle.cut_parts.proofs.SetLaws.{meets_listed, meets_on}
use Rattle.cut_redos.specs.Facing.{faces}

imply : (a b : Bool) → (a ≡ true → b ≡ true) → implies a b ≡ true
imply true b h = h refl
imply false b h = refl

implied : (a b : Bool) → implies a b ≡ true → a ≡ true → b ≡ true
implied true b h e = h
implied false b h e = not_both_lem false e refl

module _ (m border edges gates : ℕ) where
  -- no edge to the border
  pub faces_none : bit_and border edges ≡ 0 → true ≡ faces (has edges) (has gates) (listed m border)
  unfolding faces
  faces_none e =
      let off : (a : ℕ) → Has a (listed m border) → has edges a ≡ false =
      λ a i. sym (ap (λ (b : Bool). b && has edges a) (has_listed m border a i).1) ∙ sym (has_and border edges a) ∙ ap (λ (x : ℕ). has x a) e ∙ has_zero a in
      sym (and_both (all (λ a. implies (has edges a) (has gates a)) (listed m border)) (implies (any (has edges) (listed m border)) (all (λ a. implies (has gates a) (has edges a)) (listed m border)))
      (has_all (λ a. implies (has edges a) (has gates a)) (listed m border) (λ a i. ap (λ (b : Bool). implies b (has gates a)) (off a i)))
      (ap (λ (b : Bool). implies b (all (λ a. implies (has gates a) (has edges a)) (listed m border))) (any_false (has edges) (listed m border) off)))

  -- an edge to the border, and then one to every gate and to nothing else
  pub faces_some : border < 2 ^ m → edges < 2 ^ m → gates < 2 ^ m → (bit_and border edges ≡ 0 → ⊥) → eqb (bit_and border edges) (bit_and border gates) ≡ faces (has edges) (has gates) (listed m border)
  unfolding faces
  faces_some lb le lg n =
      let bs : List ℕ = listed m border in
      let only : Bool = all (λ a. implies (has edges a) (has gates a)) bs in
      let every : Bool = all (λ a. implies (has gates a) (has edges a)) bs in
      let some : any (has edges) bs ≡ true = sym (meets_listed m edges border le) ∙ meets_on edges border n in
      bool_ext (eqb (bit_and border edges) (bit_and border gates)) (only && implies (any (has edges) bs) every)
      (λ h. let same : (a : ℕ) → Has a bs → has edges a ≡ has gates a =
      λ a i. let b = (has_listed m border a i).1 in
      sym (ap (λ (t : Bool). t && has edges a) b) ∙ sym (has_and border edges a) ∙ ap (λ (x : ℕ). has x a) (eqb-true (bit_and border edges) (bit_and border gates) h) ∙ has_and border gates a ∙ ap (λ (t : Bool). t && has gates a) b in
      and_both only (implies (any (has edges) bs) every)
      (has_all (λ a. implies (has edges a) (has gates a)) bs (λ a i. imply (has edges a) (has gates a) (λ y. sym (same a i) ∙ y)))
      (imply (any (has edges) bs) every (λ _. has_all (λ a. implies (has gates a) (has edges a)) bs (λ a i. imply (has gates a) (has edges a) (λ y. same a i ∙ y)))))
      (λ h. let p = and_cases only (implies (any (has edges) bs) every) h in
      let q : every ≡ true = implied (any (has edges) bs) every p.1 some in
      eq-eqb (bit_and border edges) (bit_and border gates) (ext m (bit_and border edges) (bit_and border gates) (lt_of_le_of_lt (and_le_r border edges) le) (lt_of_le_of_lt (and_le_r border gates) lg)
      (λ a l. has_and border edges a ∙ bool_ext (has border a && has edges a) (has border a && has gates a)
      (λ y. let r = and_cases (has border a) (has edges a) y in
      and_both (has border a) (has gates a) r.0 (implied (has edges a) (has gates a) (all_has (λ x. implies (has edges x) (has gates x)) a bs p.0 (listed_has m border a l r.0)) r.1))
      (λ y. let r = and_cases (has border a) (has gates a) y in
      and_both (has border a) (has edges a) r.0 (implied (has gates a) (has edges a) (all_has (λ x. implies (has gates x) (has edges x)) a bs q (listed_has m border a l r.0)) r.1))
      ∙ sym (has_and border gates a))))

-- ---- the rules' redo test, code by code

all_and : {A : Type 0} (f g : A → Bool) (xs : List A) → all (λ x. f x && g x) xs ≡ (all f xs && all g xs)
all_and f g [] = refl
all_and f g (x ∷ xs) = ap (λ (t : Bool). (f x && g x) && t) (all_and f g xs) ∙ four (f x) (g x) (all f xs) (all g xs)
  where
    four : (a b c d : Bool) → ((a && b) && (c && d)) ≡ ((a && c) && (b && d))
    four true true true d = refl
    four true true false d = refl
    four true false true d = refl
    four true false false d = refl
    four false b c d = refl

sorted : (i o a b : Bool) → (((i && o) && a) && b) ≡ ((o && a) && (i && b))
sorted true true true b = refl
sorted true true false b = refl
sorted true false a b = refl
sorted false true true b = refl
sorted false true false b = refl
sorted false false a b = refl

-- THEOREM: a redo part is one whose every code may stand in a redo part
pub redo_codes : (g : Graph) (border p : List ℕ) → is_redo g border p ≡ all (λ x. faces (g.edge x) g.start border && faces (λ a. g.edge a x) g.end border) p
unfolding is_redo faces
redo_codes g border p = ap (λ (t : ℕ → Bool). all t p) (fun_ext (λ (x : ℕ). code x))
  where
    code : (x : ℕ) → (all (λ a. implies (g.edge a x) (g.end a) && implies (g.edge x a) (g.start a)) border
        && implies (any (g.edge x) border) (all (λ a. implies (g.start a) (g.edge x a)) border)
        && implies (any (λ a. g.edge a x) border) (all (λ a. implies (g.end a) (g.edge a x)) border))
        ≡ ((all (λ a. implies (g.edge x a) (g.start a)) border && implies (any (g.edge x) border) (all (λ a. implies (g.start a) (g.edge x a)) border))
        && (all (λ a. implies (g.edge a x) (g.end a)) border && implies (any (λ a. g.edge a x) border) (all (λ a. implies (g.end a) (g.edge a x)) border)))
    code x =
        ap (λ (t : Bool). (t && implies (any (g.edge x) border) (all (λ a. implies (g.start a) (g.edge x a)) border)) && implies (any (λ a. g.edge a x) border) (all (λ a. implies (g.end a) (g.edge a x)) border))
        (all_and (λ a. implies (g.edge a x) (g.end a)) (λ a. implies (g.edge x a) (g.start a)) border)
        ∙ sorted (all (λ a. implies (g.edge a x) (g.end a)) border) (all (λ a. implies (g.edge x a) (g.start a)) border)
        (implies (any (g.edge x) border) (all (λ a. implies (g.start a) (g.edge x a)) border)) (implies (any (λ a. g.edge a x) border) (all (λ a. implies (g.end a) (g.edge a x)) border))
