use borrow.Author.Rules.{rules}
use borrow.Author.Tests.{tests}
use native.Mathlib.Omega.{arith}
use mathlib.Core.Path.{refl, sym, ◌∙◌}
use Prim.Native.Nat.{◌≤◌}
use lib.ListN.{length}
use lib.Seq.{length-take-le}
use Rattle.std.proofs.lemmas.Iterator.{YieldsList-from_slice}
use Rattle.std.proofs.lemmas.Iterator.Search.{all_from_yields_List}
use Rattle.code_sets.specs.Bits.{has}
use Rattle.judge_fits.proofs.VerdictLaws.{all_is, root_says, root_misfit}
use Rattle.judge_fits.proofs.MemoryLaws.{wiped}
use Rattle.judge_fits.proofs.fits.Goals as goal

pub slice_bounds-fill-end-2 : goal.slice_bounds-fill-end-2
slice_bounds-fill-end-2 c = let room : 8128 ≤ length c.fill.new.work = omega (arith, c.requires.sized.room, c.fill.auto.work) in search (rules, length-take-le)

pub returns-then-all : goal.returns-then-all
unfolding has
returns-then-all c = let a = c.args in
    let own = c.codes_in-codes in
    let said = all_from_yields_List (has own.result.bits) _ _ c.all.result c.all.ensures.ran (YieldsList-from_slice a.episode.now cc) (λ x b q k. search (rules, tests)) in (
      root_says a.tree.now a.episode.now c.fill.new.work a.n (has own.result.bits) own.ensures _
          (sym (all_is (has own.result.bits) a.episode.now) ∙ sym said ∙ c.if-all.true) refl c.fill.ensures.0,
      wiped a.work.now c.fill.new.work _ (omega (arith, c.requires.sized.room, c.fill.auto.work)) (c.fill-2.ensures.after (λ y h. h)) c.fill.ensures.1,
    )

pub returns-else-all : goal.returns-else-all
returns-else-all c = let a = c.args in
    let own = c.codes_in-codes in
    let said = all_from_yields_List (has own.result.bits) _ _ c.all.result c.all.ensures.ran (YieldsList-from_slice a.episode.now cc) (λ x b q k. search (rules, tests)) in (
      rw c.if-all.false (root_misfit a.tree.now a.episode.now c.fill.new.work a.n (has own.result.bits) own.ensures
          (sym (all_is (has own.result.bits) a.episode.now) ∙ sym said ∙ c.if-all.false)),
      wiped a.work.now c.fill.new.work _ (omega (arith, c.requires.sized.room, c.fill.auto.work)) (c.fill-2.ensures.after (λ y h. h)) c.fill.ensures.1,
    )
