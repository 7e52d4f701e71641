use borrow.Author.Rules.{rules}
use Prim.Native.Nat.{ℕ, ◌+◌, ◌-◌, ◌<◌}
use native.Mathlib.Omega.{arith}
use mathlib.Core.Path.{◌≡◌, refl, ◌∙◌, subst}
use Rattle.judge_nodes.specs.Children.{Ready}
use Rattle.judge_subtrees.proofs.EntryLaws.{subtree_few}
use Rattle.judge_fits.proofs.FillLaws.{ready_below}
use Rattle.judge_fits.proofs.fill.Goals as goal

pub loop-v-init : goal.loop-v-init
unfolding Ready
loop-v-init c = (omega (arith, c.requires.some), omega arith, refl, λ t u g k. absurd (omega arith), refl)

pub place_rows-requires : goal.place_rows-requires
place_rows-requires c = let p = c.requires in
    let l = c.loop-v in
    let b = c.args.tree.now in
    let e = c.args.episode.now in
    let n = c.args.n in
    let g : l.v - 1 < n = omega arith in
    let back : l.v ≡ l.v - 1 + 1 = omega arith in
    record {
      sized = record { block = p.sized.block; short = p.sized.short; room = omega (arith, p.sized.room, l.invariant.2) };
      below = subtree_few b (l.v - 1) n p.few (p.each (l.v - 1) g);
      ready = ready_below b e l.work (l.v - 1) n (p.each (l.v - 1) g) (subst (λ (m : ℕ). Ready b e l.work m n) back l.invariant.3);
    }

pub loop-v-preserved : goal.loop-v-preserved
loop-v-preserved c = let l = c.loop-v in
    let p = c.requires in
    let b = c.args.tree.now in
    let e = c.args.episode.now in
    let n = c.args.n in
    let v = l.v - 1 in
    let g : v < n = omega arith in
    let back : l.v ≡ v + 1 = omega arith in (
      omega arith,
      omega arith,
      search rules,
      c.place_rows.ensures.ready n (p.each v g) (subst (λ (m : ℕ). Ready b e l.work m n) back l.invariant.3),
      c.place_rows.ensures.rest ∙ l.invariant.4,
    )

pub place_rows-requires-2 : goal.place_rows-requires-2
place_rows-requires-2 c = let p = c.requires in
    let l = c.loop-v in
    let b = c.args.tree.now in
    let e = c.args.episode.now in
    let n = c.args.n in
    let one : l.v ≡ 1 = omega arith in
    record {
      sized = record { block = p.sized.block; short = p.sized.short; room = omega (arith, p.sized.room, l.invariant.2) };
      below = subtree_few b 0 n p.few (p.each 0 p.some);
      ready = ready_below b e l.work 0 n (p.each 0 p.some) (subst (λ (m : ℕ). Ready b e l.work m n) one l.invariant.3);
    }

pub returns : goal.returns
returns c = let l = c.loop-v in
    let b = c.args.tree.now in
    let e = c.args.episode.now in
    let n = c.args.n in
    let one : l.v ≡ 1 = omega arith in (
      c.place_rows-2.ensures.ready n (c.requires.each 0 c.requires.some) (subst (λ (m : ℕ). Ready b e l.work m n) one l.invariant.3),
      c.place_rows-2.ensures.rest ∙ l.invariant.4,
    )
