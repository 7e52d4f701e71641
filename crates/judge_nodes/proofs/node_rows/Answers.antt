use native.Mathlib.Omega.{arith}
use Prim.Native.Nat.{ℕ}
use mathlib.Core.Path.{sym, ap, ◌∙◌}
use Rattle.code_sets.specs.Bits.{has}
use Rattle.code_sets.proofs.BitLaws.{has_zero}
use Rattle.judge_subtrees.proofs.EntryLaws.{subtree_size, operator_children, operator_some, operator_two}
use Rattle.judge_nodes.proofs.NodeLaws.{silent_node, list_node, loop_node}
use Rattle.judge_nodes.proofs.node_rows.Goals as goal

pub returns-in-1 : goal.returns-in-1
returns-in-1 c = silent_node _ _ _ _ (has c.none.result.bits) c.in-1.is (λ x. ap (λ (y : ℕ). has y x) c.none.ensures ∙ has_zero x) c.clear_rows.ensures

pub operator_at-operator-requires : goal.operator_at-operator-requires
operator_at-operator-requires c = (omega (arith, subtree_size _ _ _ c.requires.below), c.requires.sized.block)

pub size_at-n-requires : goal.size_at-n-requires
size_at-n-requires c = (omega (arith, subtree_size _ _ _ c.requires.below), c.requires.sized.block)

pub codes_against-requires : goal.codes_against-requires
codes_against-requires c = (omega (arith, subtree_size _ _ _ c.requires.below), c.requires.sized.block)

pub loop_rows-requires : goal.loop_rows-requires
loop_rows-requires c =
    let children = operator_children _ _ _ c.requires.below (λ q. omega arith) (λ q. omega arith) in
    let more = operator_two _ _ _ c.requires.below (λ q. omega arith) (λ q. omega arith) in
    (rw c.size_at-n.ensures children, omega (arith, subtree_size _ _ _ c.requires.below), omega arith)

pub list_rows-requires : goal.list_rows-requires
list_rows-requires c =
    let children = operator_children _ _ _ c.requires.below (λ q. omega arith) (λ q. omega arith) in
    let some = operator_some _ _ _ c.requires.below (λ q. omega arith) (λ q. omega arith) in
    (rw c.size_at-n.ensures children, omega (arith, subtree_size _ _ _ c.requires.below), omega arith)

pub returns-then-eq : goal.returns-then-eq
returns-then-eq c = loop_node _ _ _ _ _ _ c.size_at-n.ensures c.requires.ready (has c.codes_against.result.bits) (λ q. omega arith) (λ q. omega arith)
    c.operator_at-operator.result (sym c.eq.ensures ∙ c.if-eq.true) c.operator_at-operator.ensures c.codes_against.ensures c.loop_rows.ensures

pub returns-else-eq : goal.returns-else-eq
returns-else-eq c = list_node _ _ _ _ _ _ c.size_at-n.ensures c.requires.ready (has c.codes_against.result.bits) (λ q. omega arith) (λ q. omega arith)
    c.operator_at-operator.result (sym c.eq.ensures ∙ c.if-eq.false) c.operator_at-operator.ensures c.codes_against.ensures c.list_rows.ensures
