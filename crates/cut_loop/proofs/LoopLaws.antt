-- The redo parts and the body of a graph whose codes, starts and ends are sets, over any number of codes m.
use mathlib.Core.Path.{◌≡◌, refl, sym, ◌∙◌, ap, ap₂}
use mathlib.Core.List.{List, [], ◌∷◌}
use mathlib.Core.Bool.{Bool, true, false, not, ◌&&◌, ◌||◌}
use Prim.Native.Nat.{ℕ, ◌^◌, ◌≤◌, ◌<◌}
use native.Mathlib.Omega.{arith}
use lib.ListN.{length}
use borrow.Author.Tests.{lt-ltb, le-ltb}
use Rattle.rules.specs.Words.{pick, any, all, keep, each, mem, from}
use Rattle.rules.specs.Mining as mining
use Rattle.rules.specs.Mining.{Rel, components, either, on_border, is_redo, redo_parts, body_part, loop_parts}
use Rattle.rules.specs.Calls.{code_count}
use Rattle.rules.proofs.ListLaws.{keep_both, keep_ext, from_has}
use Rattle.rules.proofs.FilterLaws.{any_ext, keep_each, any_each}
use Rattle.code_sets.specs.Bits.{has, listed}
use Rattle.code_sets.proofs.ListedLaws.{has_listed, mem_listed}
use Rattle.cut_parts.specs.Sets.{meets}
use Rattle.cut_parts.proofs.SetLaws.{meets_listed}
use Rattle.cut_components.proofs.BondLaws.{drawn}
use Rattle.cut_redos.specs.Facing.{may_redo}
use Rattle.cut_redos.proofs.RedoLaws.{redo_codes}
use Rattle.cut_loop.specs.Roomed.{roomed}

not_any : (t : ℕ → Bool) (xs : List ℕ) → all t xs ≡ not (any (λ x. not (t x)) xs)
not_any t [] = refl
not_any t (x ∷ xs) = one (t x) (not_any t xs)
  where
    one : (b : Bool) → all t xs ≡ not (any (λ y. not (t y)) xs) → (b && all t xs) ≡ not (not b || any (λ y. not (t y)) xs)
    one true e = e
    one false e = refl

and_other : (a b : Bool) → (a && not b) ≡ (a && not (a && b))
and_other true b = refl
and_other false b = refl

-- a filter of the codes of a set is the codes of a set
pub keep_listed : (m x y : ℕ) (p : ℕ → Bool) → ((c : ℕ) → c < m → has y c ≡ (has x c && p c)) → keep p (listed m x) ≡ listed m y
unfolding listed
keep_listed m x y p h = keep_both p (has x) (from 0 m) ∙ keep_ext (λ c. has x c && p c) (has y) (from 0 m) (λ c i. let l = from_has m 0 c i in sym (h c (omega arith)))

module _ (m kept : ℕ) (edge : Rel) (starts ends border rest : ℕ)
    (on_border_lem : (c : ℕ) → has border c ≡ (has kept c && (has starts c || has ends c)))
    (on-rest : (c : ℕ) → has rest c ≡ (has kept c && not (has border c))) where
  abbrev g : mining.Graph
  g = drawn m kept edge starts ends

  border_is : keep (on_border g) (listed m kept) ≡ listed m border
  border_is = keep_listed m kept border (on_border g) (λ c l. on_border_lem c)

  pub rest_is : keep (λ a. not (on_border (drawn m kept edge starts ends) a)) (listed m kept) ≡ listed m rest
  rest_is =
      keep_listed m kept rest (λ a. not (on_border g a))
      (λ c l. on-rest c ∙ ap (λ (b : Bool). has kept c && not b) (on_border_lem c) ∙ sym (and_other (has kept c) (on_border g c)))

  module _ (unfit : ℕ) (lu : unfit < 2 ^ m) (on_unfit : (c : ℕ) → c < m → has unfit c ≡ not (may_redo (edge c) (λ a. edge a c) (drawn m border edge starts ends)))
      (sets : List ℕ) (parts : each (listed m) sets ≡ components (either edge) (listed m rest)) where
    redo_is : (p : ℕ) → is_redo g (listed m border) (listed m p) ≡ not (meets unfit p)
    unfolding may_redo
    redo_is p =
        let may : ℕ → Bool = λ x. may_redo (edge x) (λ a. edge a x) (drawn m border edge starts ends) in
        redo_codes g (listed m border) (listed m p) ∙ not_any may (listed m p)
        ∙ ap not (any_ext (λ x. not (may x)) (has unfit) (listed m p) (λ x i. sym (on_unfit x (has_listed m p x i).0)) ∙ sym (meets_listed m unfit p lu))

    -- THEOREM: the parts without an unfit code are the redo parts
    pub redos_are : each (listed m) (keep (λ p. not (meets unfit p)) sets) ≡ redo_parts (drawn m kept edge starts ends)
    unfolding redo_parts
    redos_are =
        ap (each (listed m)) (sym (keep_ext (λ p. is_redo g (listed m border) (listed m p)) (λ p. not (meets unfit p)) sets (λ p i. redo_is p)))
        ∙ sym (keep_each (is_redo g (listed m border)) (listed m) sets)
        ∙ ap (keep (is_redo g (listed m border))) (parts ∙ ap (components (either edge)) (sym rest_is))
        ∙ ap (λ (bs : List ℕ). keep (is_redo g bs) (components (either edge) (keep (λ a. not (on_border g a)) (listed m kept)))) (sym border_is)

module _ (m kept : ℕ) (edge : Rel) (starts ends : ℕ) (redos : List ℕ) (are : each (listed m) redos ≡ redo_parts (drawn m kept edge starts ends))
    (body : ℕ) (left : (c : ℕ) → has body c ≡ (has kept c && not (any (λ p. has p c) redos))) where
  -- THEOREM: the codes that no redo part has are the body
  pub body_is : listed m body ≡ body_part (drawn m kept edge starts ends)
  unfolding body_part
  body_is =
      sym (ap (λ (rs : List (List ℕ)). keep (λ a. not (any (mem a) rs)) (listed m kept)) (sym are)
      ∙ keep_listed m kept body (λ a. not (any (mem a) (each (listed m) redos)))
      (λ c l. left c ∙ ap (λ (b : Bool). has kept c && not b)
      (sym (any_each (mem c) (listed m) redos ∙ any_ext (λ p. mem c (listed m p)) (λ p. has p c) redos (λ p i. mem_listed m p c l)))))

  -- the body and the redo parts
  pub loop_is : (out : List ℕ) → out ≡ body ∷ redos → each (listed m) out ≡ loop_parts (drawn m kept edge starts ends)
  unfolding loop_parts
  loop_is out o = ap (each (listed m)) o ∙ ap₂ ◌∷◌ body_is are

-- ---- room for the body

pub roomed_on : (g : mining.Graph) (ps : List (List ℕ)) → length (redo_parts g) < code_count → ps ≡ loop_parts g → ps ≡ roomed g
unfolding roomed
roomed_on g ps l e = e ∙ ap (λ (b : Bool). pick b (loop_parts g) []) (sym (lt-ltb (length (redo_parts g)) code_count l))

pub roomed_off : (g : mining.Graph) → code_count ≤ length (redo_parts g) → [] ≡ roomed g
unfolding roomed
roomed_off g l = ap (λ (b : Bool). pick b (loop_parts g) []) (sym (le-ltb (length (redo_parts g)) code_count l))
