use mathlib.Core.Path.{◌∙◌, ap}
use Prim.Native.Nat.{ℕ}
use native.Mathlib.Omega.{arith}
use Rattle.rules.specs.TreeBlock.{entries}
use Rattle.rules.specs.Calls.{code_count}
use Rattle.code_sets.specs.Bits.{listed}
use Rattle.tree_writing.specs.Writing.{with_entry}
use Rattle.mine_bases.proofs.WritingLaws.{put_wrote, leaves_sizes}
use borrow.Author.Rules.{rules}
use Rattle.mine_bases.proofs.base.Goals as goal

pub returns-in-Silent : goal.returns-in-Silent
unfolding entries
returns-in-Silent c = rw c.in-Silent.is (put_wrote _ _ 1 0 1 _ c.put.ensures)

pub returns-in-Leaf : goal.returns-in-Leaf
unfolding entries
returns-in-Leaf c = let a = c.args in
    rw c.in-Leaf.is
    (put_wrote _ _ 2 _ 1 _ (c.put-in-Leaf.ensures ∙ ap (λ (x : ℕ). with_entry a.tree.now a.at 2 x 1) c.first.ensures.1))

pub flower-requires : goal.flower-requires
flower-requires c = let fits = rw c.in-Flower.is at c.requires.1 in
    (search rules, omega (arith, leaves_sizes (listed code_count c.args.set.bits)))
