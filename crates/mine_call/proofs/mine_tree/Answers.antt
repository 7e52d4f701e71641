use mathlib.Core.Path.{◌≡◌, ap, ◌∙◌}
use native.Mathlib.Nat.{zero-add}
use lib.ListN.{length}
use Rattle.rules.specs.Words.{zeros}
use Rattle.rules.specs.Trees.{size}
use Rattle.rules.proofs.TreeBlockLaws.{zeros_length}
use Rattle.mine_places.specs.Places.{episodes_of}
use Rattle.mine_call.proofs.CallLaws.{listed_below, root_ready, root_mined, filled, block_is}
use Rattle.mine_call.proofs.mine_tree.Goals as goal

pub mine_node-nodes-requires : goal.mine_node-nodes-requires
mine_node-nodes-requires c = let a = c.args in
    let small = listed_below a.w a.log.now a.places.now c.requires.1 in
    let v = c.quiet-v in
    let zeroed : c.fill.new.self ≡ zeros 512 = filled _ 512 _ (c.fill.ensures.after (λ y e. e)) c.requires.0 in
    (c.requires.1, root_ready (episodes_of a.w a.log.now a.places.now) small v.result (v.ensures ∙ c.requires.2) c.fill.new.self (ap length zeroed ∙ zeros_length 512))

pub returns : goal.returns
returns c = let a = c.args in
    let small = listed_below a.w a.log.now a.places.now c.requires.1 in
    let v = c.quiet-v in
    let zeroed : c.fill.new.self ≡ zeros 512 = filled _ 512 _ (c.fill.ensures.after (λ y e. e)) c.requires.0 in
    let wrote = c.mine_node-nodes in
    let same = root_mined (episodes_of a.w a.log.now a.places.now) small v.result (v.ensures ∙ c.requires.2) in (
      wrote.ensures.next ∙ zero-add _ ∙ ap size same,
      block_is _ _ c.fill.new.self wrote.new.tree c.seal.new.block same zeroed wrote.ensures.block c.seal.ensures,
    )
