use Rattle.std.proofs.Common.{◌≡◌, sym, subst, arith, ℕ, ◌+◌, ◌-◌, Some, None}
use Rattle.tree_check.proofs.RuleLaws.{node_settled, node_broken, node_operator, node_ended, node_missed, node_beyond, node_crowded, list_none, list_broken, list_more}
use Rattle.tree_check.specs.Checks.{NodeSays, ListSays}
use Rattle.tree_check.proofs.+list_node.Goals as goal
use Rattle.tree_check.proofs.+list_node.Goals.{node-then-end-stop-via-then-end-stop, node-then-end-stop-via-else-end-stop+then-size-children}

pub node-returns-in_err-met : goal.node-returns-in_err-met
node-returns-in_err-met t c = subst (NodeSays _ _ _ _) (sym c.from_residual.ensures) (node_broken _ _ _ _ c.in_err-met.ensures)

pub node-returns-in-Settled : goal.node-returns-in-Settled
node-returns-in-Settled t c = node_settled _ _ _ _ _ _ c.requires.1 c.in-Settled.is c.in_ok-met.ensures

pub node-returns-then-end-stop : goal.node-returns-then-end-stop
node-returns-then-end-stop t c = elim c.then-end-stop.branch [
  | node-then-end-stop-via-then-end-stop w ↦ node_beyond _ _ _ _ _ _ _ c.in-Operator.is c.in_ok-met.ensures (omega arith)
  | node-then-end-stop-via-else-end-stop+then-size-children w ↦ node_crowded _ _ _ _ _ _ _ c.in-Operator.is c.in_ok-met.ensures (omega arith)
]

pub node-returns-in_err-below-in-Operator : goal.node-returns-in_err-below-in-Operator
node-returns-in_err-below-in-Operator t c =
    subst (NodeSays _ _ _ _) (sym c.from_residual-in_err-below-in-Operator.ensures)
    (node_operator _ _ _ _ _ _ _ c.in-Operator.is c.in_ok-met.ensures None c.if-end-stop.false c.in_err-below-in-Operator.ensures)

pub node-returns-then-below-stop : goal.node-returns-then-below-stop
node-returns-then-below-stop t c =
    node_ended _ _ _ _ _ _ _ c.in-Operator.is c.in_ok-met.ensures _ c.if-end-stop.false c.if-below-stop.true c.in_ok-below-in-Operator.ensures

pub node-returns-else-below-stop : goal.node-returns-else-below-stop
node-returns-else-below-stop t c =
    node_missed _ _ _ _ _ _ _ c.in-Operator.is c.in_ok-met.ensures _ c.if-end-stop.false c.if-below-stop.false c.in_ok-below-in-Operator.ensures

pub list-returns-in_err-met : goal.list-returns-in_err-met
list-returns-in_err-met t c =
    subst (ListSays _ _ _ _ _) (sym c.from_residual.ensures) (c.loop-done.invariant.2 _ (list_broken _ _ _ _ _ (omega arith) c.in_err-met.ensures))

pub list-loop-done-preserved : goal.list-loop-done-preserved
list-loop-done-preserved t c =
    let i = c.loop-done.invariant in
    let p = c.requires in
    let met = c.in_ok-met.met in
    let e : c.args.count - c.loop-done.done - 1 ≡ c.args.count - (c.loop-done.done + 1) = omega arith in
    let says : NodeSays c.args.tree.now c.loop-done.met.next (c.args.end + 1 - (c.args.count - c.loop-done.done)) c.loop-done.met.seen (Some met) = c.in_ok-met.ensures in
    let ends = says.ends in (
      omega (arith, i.0),
      omega (arith, i.1),
      λ q rest. i.2 q (list_more _ _ _ _ (c.args.count - c.loop-done.done) _ met q (omega arith) (omega (arith, p)) says
          (subst (λ (n : ℕ). ListSays c.args.tree.now met.next n c.args.end met.seen q) (sym e) rest)),
    )

pub list-returns : goal.list-returns
list-returns t c = c.loop-done.invariant.2 _ (list_none _ _ _ _ _ (omega arith) c.loop-done.invariant.1)
