use mathlib.Core.Path.{refl, ap, subst}
use native.Mathlib.Omega.{arith}
use Rattle.rules.specs.Trees.{Tree, size}
use Rattle.mine_places.specs.Places.{episodes_of}
use Rattle.mine_bases.specs.Writing.{WroteTree}
use Rattle.mine_nodes.proofs.NodeLaws.{CutNode, node_base, node_room, node_next, node_wrote, child_fewer, child_ready, child_next, child_long}
use Rattle.mine_nodes.proofs.+mine_node.Goals as goal

pub base-requires : goal.base-requires
base-requires t c =
    let plan = c.planned-plan in
    let ready = c.requires.1 in
    let e = node_base (episodes_of c.args.w c.args.log.now c.args.places.now) c.args.v ready.tight plan.result plan.ensures _ c.in-Uncut.is in
    (ready.long, omega (arith, ap size e, ready.room))

pub returns-in-Uncut : goal.returns-in-Uncut
returns-in-Uncut t c =
    let a = c.args in
    let plan = c.planned-plan in
    let wrote = c.base in
    subst (λ (t : Tree). WroteTree t a.at a.tree.now wrote.result wrote.new.tree)
    (node_base (episodes_of a.w a.log.now a.places.now) a.v c.requires.1.tight plan.result plan.ensures _ c.in-Uncut.is) wrote.ensures

pub overflow_add-next : goal.overflow_add-next
overflow_add-next t c = omega (arith, c.requires.1.room)

pub loop-i-init : goal.loop-i-init
loop-i-init t c = (record { bytes = refl; count = refl }, c.requires.1.long)

pub mine_node-next-requires : goal.mine_node-next-requires
mine_node-next-requires t c =
    let a = c.args in
    let l = episodes_of a.w a.log.now a.places.now in
    let at = c.loop-i in
    let w = c.part_of-u in
    let lt = c.loop-i-test.true in
    let call = w.ensures l in
    let here : CutNode l a.v a.tree.now a.at c.planned-plan.result c.in-Cut.operator = record { ready = c.requires.1; plans = c.planned-plan.ensures; is = c.in-Cut.is } in (
      omega (arith, c.decreases, child_fewer here at.i lt w.result call),
      (c.requires.0, child_ready here at.i lt w.result call at.next at.tree at.invariant.0 at.invariant.1),
    )

pub loop-i-preserved : goal.loop-i-preserved
loop-i-preserved t c =
    let a = c.args in
    let l = episodes_of a.w a.log.now a.places.now in
    let at = c.loop-i in
    let w = c.part_of-u in
    let lt = c.loop-i-test.true in
    let wrote = c.mine_node-next in
    let here : CutNode l a.v a.tree.now a.at c.planned-plan.result c.in-Cut.operator = record { ready = c.requires.1; plans = c.planned-plan.ensures; is = c.in-Cut.is } in (
      child_next here at.i lt w.result (w.ensures l) at.next at.tree at.invariant.0 at.invariant.1 wrote.result wrote.new.tree wrote.ensures,
      child_long here at.i lt w.result (w.ensures l) at.next at.tree at.invariant.0 at.invariant.1 wrote.result wrote.new.tree wrote.ensures,
    )

pub returns : goal.returns
returns t c =
    let a = c.args in
    let l = episodes_of a.w a.log.now a.places.now in
    let at = c.loop-i in
    let here : CutNode l a.v a.tree.now a.at c.planned-plan.result c.in-Cut.operator = record { ready = c.requires.1; plans = c.planned-plan.ensures; is = c.in-Cut.is } in
    node_wrote here at.next at.tree at.i at.invariant.0 c.loop-i-test.false _ _ _ _ c.from.ensures refl c.byte.ensures c.put.ensures

pub overflow_sub-next : goal.overflow_sub-next
overflow_sub-next t c =
    let a = c.args in
    let at = c.loop-i in
    let here : CutNode (episodes_of a.w a.log.now a.places.now) a.v a.tree.now a.at c.planned-plan.result c.in-Cut.operator = record { ready = c.requires.1; plans = c.planned-plan.ensures; is = c.in-Cut.is } in
    omega (arith, node_next here at.next at.tree at.i at.invariant.0 c.loop-i-test.false)

pub byte-requires : goal.byte-requires
byte-requires t c =
    let a = c.args in
    let at = c.loop-i in
    let here : CutNode (episodes_of a.w a.log.now a.places.now) a.v a.tree.now a.at c.planned-plan.result c.in-Cut.operator = record { ready = c.requires.1; plans = c.planned-plan.ensures; is = c.in-Cut.is } in
    omega (arith, node_next here at.next at.tree at.i at.invariant.0 c.loop-i-test.false, node_room here)

pub put-requires : goal.put-requires
put-requires t c =
    let a = c.args in
    let at = c.loop-i in
    let here : CutNode (episodes_of a.w a.log.now a.places.now) a.v a.tree.now a.at c.planned-plan.result c.in-Cut.operator = record { ready = c.requires.1; plans = c.planned-plan.ensures; is = c.in-Cut.is } in
    (omega (arith, at.invariant.1), omega (arith, node_room here))
