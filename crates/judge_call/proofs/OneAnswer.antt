-- No second answer meets the contract of judging: the verdict and the work afterwards follow from what is lent.
use Prim.Native.Nat.{ℕ, ◌<◌}
use mathlib.Core.List.{List}
use mathlib.Core.Path.{◌≡◌, refl, sym, ◌∙◌}
use lib.ListN.{get_or}
use borrow.Author.Tests.{eq-eqb}
use Rattle.rules.specs.Heartbeats.{without_heartbeats}
use Rattle.rules.specs.Trees.{Tree}
use Rattle.rules.specs.Calls.{checking, judging, Judged, VerdictOf, JudgeSays}
use Rattle.rules.specs.declared.Verdict.{Verdict}
use Rattle.rules.specs.declared.Verdict.TheVariants.{Fits, Misfit}
use Rattle.tree_check.proofs.Accepted.{accepted_tree}
use Rattle.judge_call.proofs.AcceptLaws.{Accepted, judging_given}
use Rattle.std.specs.Prelude.{Result, Ok, Err}
use Rattle.rules.specs.declared.Refusal.{Refusal}
use Rattle.rules.specs.Refusals.{Answer}

-- one tree and one episode have one verdict
judged_one : (t : Tree) (e : List ℕ) (r s : Result Verdict Refusal) → Judged t e r → Judged t e s → r ≡ s
judged_one t e (Ok Fits) (Ok Fits) p q = refl
judged_one t e (Ok Fits) (Ok Misfit) p q = absurd (q p)
judged_one t e (Ok Fits) (Err refusal) p q = absurd q
judged_one t e (Ok Misfit) (Ok Fits) p q = absurd (p q)
judged_one t e (Ok Misfit) (Ok Misfit) p q = refl
judged_one t e (Ok Misfit) (Err refusal) p q = absurd q
judged_one t e (Err refusal) s p q = absurd p

module _ (b e work : List ℕ) (bytes : (i : ℕ) → get_or b i 0 < 256) where
  accepted_checking : (a : Accepted b e work) → checking b ≡ Ok a.nodes
  unfolding checking
  accepted_checking a = simp (eq-eqb _ _ a.long, a.right) a.formed

  -- an accepted block is the block of a tree
  verdict_one : (a : Answer) → judging b e work ≡ a → (r s : Result Verdict Refusal) → VerdictOf a b e r → VerdictOf a b e s → r ≡ s
  verdict_one (Ok m) q r s p p' =
      let g = judging_given b e work m q in
      let found = accepted_tree b bytes g.nodes (accepted_checking g) in
      judged_one found.0 (without_heartbeats e) r s (p found.0 found.1.block) (p' found.0 found.1.block)
  verdict_one (Err refusal) q r s p p' = p ∙ sym p'

  -- THEOREM: two answers that meet the contract are one
  pub judge_one : (r s : Result Verdict Refusal) (work₁ work₂ : List ℕ) → JudgeSays b e work r work₁ → JudgeSays b e work s work₂ → (r ≡ s) × (work₁ ≡ work₂)
  judge_one r s work₁ work₂ p q = (verdict_one (judging b e work) refl r s p.verdict q.verdict, p.memory ∙ sym q.memory)
