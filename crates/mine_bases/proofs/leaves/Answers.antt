use mathlib.Core.Path.{sym, ap, ◌∙◌}
use Prim.Native.Nat.{ℕ, ◌+◌}
use Rattle.rules.specs.Calls.{code_count}
use Rattle.code_sets.specs.Bits.{listed}
use Rattle.mine_bases.proofs.WritingLaws.{leaf_next, leaf_count, leaf_long, leaves_end, leaves_last, leaves_sizes}
use Rattle.mine_bases.proofs.leaves.Goals as goal

pub loop-c-preserved : goal.loop-c-preserved
loop-c-preserved c = let e = c.loop-c.invariant in
    let is = c.in-Some.ensures.steps in (
      leaf_next _ _ _ _ _ e.0 e.1 e.2 c.requires.1 _ _ is _ c.put.ensures,
      leaf_count _ _ _ _ _ e.0 e.1 e.2 c.requires.1 _ _ is,
      leaf_long _ _ _ _ _ e.0 e.1 e.2 c.requires.1 _ _ is _ c.put.ensures,
    )

pub returns : goal.returns
returns c = let a = c.args in
    let e = c.loop-c.invariant in
    let none = c.in-None.ensures.steps.0 in
    record {
      next = leaves_last _ _ _ _ _ e.0 e.1 e.2 c.requires.1 none ∙ ap (λ (k : ℕ). a.at + k) (sym (leaves_sizes (listed code_count a.set.bits)));
      block = sym (leaves_end _ _ _ _ _ e.0 e.1 e.2 c.requires.1 none);
    }
