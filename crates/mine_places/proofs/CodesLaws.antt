-- The codes that an iterator over a record's events has still to give.
use mathlib.Core.Path.{◌≡◌, refl, sym, ◌∙◌, ap, subst}
use mathlib.Core.List.{List, [], ◌∷◌}
use mathlib.Core.Bool.{Bool, true, cond}
use Prim.Native.Nat.{ℕ, zero, suc, ◌+◌, ◌-◌, ◌≤◌, ◌<◌}
use native.Mathlib.Omega.{arith}
use lib.ListN.{length}
use denote.Ref.{Bor}
use Rattle.std.specs.Prelude.{Option, None, Some}
use Rattle.std.specs.declared.iter.StepBy.{StepBy}
use Rattle.std.specs.declared.slice.Iter.{Iter}
use Rattle.std.specs.Iterator.{Yields, AlwaysYields}
use Rattle.std.specs.Iterator.Adapters.{step_by_source, step_by_gap, step_by_first_take, step_by_steps}
use Rattle.std.specs.Slice.Iter.{iter_rest}
use Rattle.std.proofs.iter.Yields.{fronts}
use Rattle.std.proofs.lemmas.Iterator.{YieldsList}
use Rattle.rules.specs.Calls.{code_count}
use Rattle.mine_places.specs.Places.{codes_after, codes_of, All}

-- of those after the ones that it passes over first
abbrev pub codes_left : StepBy (Iter ℕ) → List ℕ
codes_left s = codes_after (step_by_gap s + 1) (cond (step_by_first_take s) 0 (step_by_gap s)) (iter_rest (step_by_source s))

none_left : (w n : ℕ) (rest : List ℕ) → length rest ≡ 0 → codes_after w n rest ≡ []
none_left w n [] e = refl
none_left w n (x ∷ rest) e = absurd (omega arith)

-- what is passed over has no code
passed : (w : ℕ) (xs : List (Bor ℕ)) (s t : Iter ℕ) (n : ℕ) → Yields fronts s xs t → codes_after w (length xs + n) (iter_rest s) ≡ codes_after w n (iter_rest t)
passed w [] s t n y = let e : 0 + n ≡ n = omega arith in (λ i. codes_after w (e i) (iter_rest (y i)))
passed w (x ∷ xs) s t n y =
    let e : suc (length xs) + n ≡ suc (length xs + n) = omega arith in
    (λ i. codes_after w (e i) (y.1 i)) ∙ passed w xs y.0 t n y.2

-- where the events end before that
ended : (w n : ℕ) (xs : List (Bor ℕ)) (s t : Iter ℕ) → length xs ≤ n → Yields fronts s xs t → length (iter_rest t) ≡ 0 → codes_after w n (iter_rest s) ≡ []
ended w n [] s t l y none = none_left w n (iter_rest s) (ap (λ (u : Iter ℕ). length (iter_rest u)) y ∙ none)
ended w zero (x ∷ xs) s t l y none = absurd (omega arith)
ended w (suc n) (x ∷ xs) s t l y none = ap (codes_after w (suc n)) y.1 ∙ ended w n xs y.0 t (omega arith) y.2 none

-- a call of the iterator
module _ (s t : StepBy (Iter ℕ)) (r : Option (Bor ℕ)) (call : step_by_steps fronts s r t) where
  -- none is given: none was left
  pub left_end : r ≡ None → codes_left s ≡ []
  left_end e =
      let k : step_by_steps fronts s None t = subst (λ (o : Option (Bor ℕ)). step_by_steps fronts s o t) e call in
      let h = k.2 in
      ended (step_by_gap s + 1) (cond (step_by_first_take s) 0 (step_by_gap s)) h.1 (step_by_source s) h.3.0 (omega (arith, h.2, h.4)) h.3.1 h.3.2.0

  -- the first that was left is given, and the others are left
  module _ (x : Bor ℕ) (e : r ≡ Some x) where
    pub left_turn : codes_left s ≡ x.now ∷ codes_left t
    left_turn =
        let k : step_by_steps fronts s (Some x) t = subst (λ (o : Option (Bor ℕ)). step_by_steps fronts s o t) e call in
        let h = k.2 in
        let w : ℕ = step_by_gap s + 1 in
        let n : cond (step_by_first_take s) 0 (step_by_gap s) ≡ length h.1 + 0 = omega (arith, h.2, h.4) in
        let v : step_by_gap s + 1 - 1 ≡ cond (step_by_first_take t) 0 (step_by_gap t) = omega (arith, k.0) ∙ ap (λ (b : Bool). cond b 0 (step_by_gap t)) (sym k.1) in
        ap (λ (m : ℕ). codes_after w m (iter_rest (step_by_source s))) n
        ∙ passed w h.1 (step_by_source s) h.3.0 0 h.3.1
        ∙ ap (codes_after w 0) h.3.2
        ∙ (λ i. x.now ∷ codes_after (sym k.0 i + 1) (v i) (iter_rest (step_by_source t)))

    pub left_less : length (codes_left t) < length (codes_left s)
    left_less = omega (arith, ap length left_turn)

    module _ (all : All (λ c. c < code_count) (codes_left s)) where
      pub code_given : x.now < code_count
      code_given = (subst (All (λ c. c < code_count)) left_turn all).0

      pub codes_rest : All (λ c. c < code_count) (codes_left t)
      codes_rest = (subst (All (λ c. c < code_count)) left_turn all).1

-- at first the record's codes are left
pub left_all : (s : StepBy (Iter ℕ)) (w : ℕ) (events : List ℕ) → iter_rest (step_by_source s) ≡ events → step_by_gap s + 1 ≡ w → step_by_first_take s ≡ true → codes_left s ≡ codes_of w events
left_all s w events e g f = λ i. codes_after (g i) (cond (f i) 0 (step_by_gap s)) (e i)

-- the same of what is made of it by a call, and of a loop's own iterator
pub left_first : (a : Iter ℕ) (s t : StepBy (Iter ℕ)) (w : ℕ) (events : List ℕ) → iter_rest a ≡ events → step_by_source s ≡ a → step_by_gap s + 1 ≡ w → step_by_first_take s ≡ true → t ≡ s → codes_left t ≡ codes_of w events
left_first a s t w events e q g f z = ap codes_left z ∙ left_all s w events (ap (λ (b : Iter ℕ). iter_rest b) q ∙ e) g f

-- so the iterator gives them
gives : (s : StepBy (Iter ℕ)) (codes : List ℕ) → codes_left s ≡ codes → AlwaysYields (step_by_steps fronts) (λ x. x.now) s codes
gives s [] e = λ x t k. absurd (omega (arith, ap length (sym e ∙ left_turn s t (Some x) k x refl)))
gives s (c ∷ codes) e = ((λ t k. absurd (omega (arith, ap length (sym e ∙ left_end s t None k refl)))), λ x t k. let f = sym e ∙ left_turn s t (Some x) k x refl in (cc, gives t codes (cc)))

pub YieldsList-from_codes : (s : StepBy (Iter ℕ)) (w : ℕ) (events : List ℕ) → iter_rest (step_by_source s) ≡ events → step_by_gap s + 1 ≡ w → step_by_first_take s ≡ true → YieldsList (step_by_steps fronts) (λ x. x.now) s (codes_of w events)
YieldsList-from_codes s w events e g f = record { runs = gives s (codes_of w events) (left_all s w events e g f) }
