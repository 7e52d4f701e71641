-- Laws of answers: how an answer that gives comes about, and what a call returns where an earlier one was refused.
use mathlib.Core.Path.{◌≡◌, refl, sym, ap, subst, ◌∙◌}
use mathlib.Core.Bool.{Bool, true, false}
use Prim.Native.Nat.{ℕ}
use native.Mathlib.Omega.{arith}
use Rattle.rules.specs.Words.{pick}
use Rattle.rules.specs.Refusals.{Given, demand, and_then, Answer, refused}
use Rattle.std.specs.Prelude.{Ok, Err}
use Rattle.rules.specs.declared.Refusal.{Refusal}
use Rattle.rules.specs.declared.Reason.{Reason}

-- a family at a pick, by the test
pub pick_case : {A : Type 0} (P : A → Type 0) (t : Bool) {a b : A} → (t ≡ true → P a) → (t ≡ false → P b) → P (pick t a b)
pick_case P true pa pb = pa refl
pick_case P false pa pb = pb refl

pub gives_same : (m n : ℕ) → ◌≡◌ {A = Answer} (Ok m) (Ok n) → m ≡ n
gives_same m n e = cc

pub refused_gives : {A : Type 0} (refusal : Refusal) (n : ℕ) → Err refusal ≡ Ok n → A
refused_gives refusal n e = let q : ◌≡◌ {A = ℕ} 0 1 = cc in absurd (omega arith)

pub given_is : (a : Answer) → Given a → (n : ℕ) × (a ≡ Ok n)
given_is (Ok n) g = (n, refl)
given_is (Err refusal) g = absurd g

pub is_given : (a r : Answer) (n : ℕ) → r ≡ a → r ≡ Ok n → Given a
is_given a r n call e = subst Given (sym e ∙ call) tt

-- ---- an answer that gives, taken apart

pub pick_given : (t : Bool) (reason : Reason) (place : ℕ) (rest : Answer) (n : ℕ) → pick t (refused reason place) rest ≡ Ok n → (t ≡ false) × (rest ≡ Ok n)
pick_given true reason place rest n e = refused_gives (record { reason = reason; place = place }) n e
pick_given false reason place rest n e = (refl, e)

pub demand_given : (t : Bool) (reason : Reason) (place : ℕ) (rest : Answer) (n : ℕ) → demand t reason place rest ≡ Ok n → (t ≡ true) × (rest ≡ Ok n)
demand_given true reason place rest n e = (refl, e)
demand_given false reason place rest n e = refused_gives (record { reason = reason; place = place }) n e

pub then_given : (a : Answer) (go : ℕ → Answer) (n : ℕ) → and_then a go ≡ Ok n → (m : ℕ) × (a ≡ Ok m) × (go m ≡ Ok n)
then_given (Ok m) go n e = (m, refl, e)
then_given (Err refusal) go n e = refused_gives refusal n e

-- ---- what a call returns, where r is the answer of the call before it

module _ (a r : Answer) (go : ℕ → Answer) (call : r ≡ a) where
  pub then_refused : (refusal : Refusal) → r ≡ Err refusal → r ≡ and_then a go
  then_refused refusal e = e ∙ ap (λ (z : Answer). and_then z go) (sym e ∙ call)

  pub then_gives : (n : ℕ) → r ≡ Ok n → go n ≡ and_then a go
  then_gives n e = ap (λ (z : Answer). and_then z go) (sym e ∙ call)
