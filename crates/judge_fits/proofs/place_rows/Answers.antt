use borrow.Author.Rules.{rules}
use native.Mathlib.Omega.{arith}
use Rattle.rules.specs.Calls.{entry_count}
use Rattle.judge_subtrees.proofs.EntryLaws.{subtree_size}
use Rattle.judge_fits.proofs.FillLaws.{placed}
use Rattle.judge_fits.proofs.place_rows.Goals as goal

pub store_rows-requires : goal.store_rows-requires
store_rows-requires c = let fits = subtree_size c.args.tree.now c.args.v entry_count c.requires.below in
    (omega arith, c.requires.sized.room, search rules)

pub returns : goal.returns
returns c = let a = c.args in
    let fits = subtree_size a.tree.now a.v entry_count c.requires.below in
    placed a.tree.now a.episode.now a.work.now c.node_rows-rows.result c.store_rows.new.work a.v (omega arith) (search rules) c.store_rows.ensures c.node_rows-rows.ensures
