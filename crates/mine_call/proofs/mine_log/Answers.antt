use mathlib.Core.Path.{ap, ◌∙◌}
use Rattle.rules.specs.Trees.{size}
use Rattle.rules.specs.TreeBlock.{tree_block}
use Rattle.mine_call.proofs.CallLaws.{same_tree, root_again, filled}
use Rattle.mine_call.proofs.mine_log.Goals as goal

pub mine_tree-nodes-requires : goal.mine_tree-nodes-requires
mine_tree-nodes-requires c = let first = c.gather-stored in
    let listed = c.list_again-n in (
      c.requires.0,
      listed.ensures.1.listed,
      root_again 1 c.args.log.now first.result listed.result first.new.work listed.new.work _ first.ensures.1 listed.ensures.1 c.root_of-met.ensures,
    )

pub returns : goal.returns
returns c = let a = c.args in
    let listed = c.list_again-n in
    let tree = same_tree 1 a.log.now listed.result listed.new.work listed.ensures.1 in
    let mined = c.mine_tree-nodes in
    (mined.ensures.0 ∙ ap size tree, mined.ensures.1 ∙ ap tree_block tree, filled _ 16384 _ (c.fill.ensures.after (λ y e. e)) listed.ensures.0)
