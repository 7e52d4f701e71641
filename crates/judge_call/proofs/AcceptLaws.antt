-- What an accepted call knows.
use mathlib.Core.Path.{◌≡◌}
use mathlib.Core.List.{List}
use mathlib.Core.Bool.{true}
use Prim.Native.Nat.{ℕ, ◌≤◌}
use native.Mathlib.Omega.{arith}
use lib.Dec.{eqb, leb}
use lib.ListN.{length}
use borrow.Author.Tests.{eqb-true, leb-true}
use Rattle.rules.specs.LogBlock.{check_right}
use Rattle.rules.specs.Calls.{lent, formed, judging}
use Rattle.rules.proofs.AnswerLaws.{demand_given, then_given}
use Rattle.log_events.proofs.LentLaws.{lent_given}
use Rattle.std.specs.Prelude.{Ok}
use Rattle.rules.specs.declared.Reason.TheVariants.{WorkLength, TreeBlock}

-- what holds where a call is not refused
pub record Accepted (b e work : List ℕ) : Type 0 where
  pub long : length b ≡ 512
  pub room : 8128 ≤ length work
  pub right : check_right b ≡ true
  pub nodes : ℕ
  pub formed : formed b ≡ Ok nodes
  pub short : length e ≤ 63

pub judging_given : (b e work : List ℕ) (n : ℕ) → judging b e work ≡ Ok n → Accepted b e work
unfolding judging
judging_given b e work n h =
    let h₁ = demand_given (eqb (length b) 512) TreeBlock 0 _ n h in
    let h₂ = demand_given (leb 8128 (length work)) WorkLength 0 _ n h₁.1 in
    let h₃ = demand_given (check_right b) TreeBlock 0 _ n h₂.1 in
    let h₄ = then_given (formed b) (λ _. lent 1 e) n h₃.1 in
    let t = lent_given 1 e n h₄.2 in
    record {
      long = eqb-true (length b) 512 h₁.0;
      room = leb-true 8128 (length work) h₂.0;
      right = h₃.0;
      nodes = h₄.0;
      formed = h₄.1;
      short = omega (arith, t.short);
    }
