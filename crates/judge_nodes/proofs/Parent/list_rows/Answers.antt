use borrow.Author.Rules.{rules}
use Prim.Native.Nat.{◌<◌}
use native.Mathlib.Omega.{arith}
use Rattle.judge_rows.specs.Rows.{at}
use Rattle.judge_subtrees.proofs.EntryLaws.{first_child, other_children}
use Rattle.judge_nodes.proofs.ChildrenLaws.{walk_first, walk_step, walk_end}
use Rattle.judge_nodes.proofs.Parent.list_rows.Goals as goal

pub child_rows-rows-requires : goal.child_rows-rows-requires
child_rows-rows-requires c = let fits = first_child _ _ _ c.requires.0 c.requires.2 in
    (omega arith, omega arith)

pub overflow_add-v : goal.overflow_add-v
overflow_add-v c = omega (arith, first_child _ _ _ c.requires.0 c.requires.2)

pub loop-v-init : goal.loop-v-init
loop-v-init c = let next = other_children _ _ _ c.requires.0 c.requires.2 in (
  omega arith,
  search rules,
  rw c.size_at-first.ensures next,
  walk_first _ _ _ _ _ _ _ _ _ c.requires.2 c.size_at-first.ensures c.child_rows-rows.ensures,
)

pub child_rows-child-requires : goal.child_rows-child-requires
child_rows-child-requires c = let fits = first_child _ _ _ c.loop-v.invariant.2 (omega arith) in
    (omega arith, omega arith)

pub overflow_add-v-in-loop-v : goal.overflow_add-v-in-loop-v
overflow_add-v-in-loop-v c = omega (arith, first_child _ _ _ c.loop-v.invariant.2 (omega arith))

pub loop-v-smaller : goal.loop-v-smaller
loop-v-smaller c = omega (arith, first_child _ _ _ c.loop-v.invariant.2 (omega arith))

pub loop-v-preserved : goal.loop-v-preserved
loop-v-preserved c = let l = c.loop-v in
    let before : l.v < c.args.end = omega arith in
    let next = other_children _ _ _ l.invariant.2 before in (
      omega arith,
      search rules,
      rw c.size_at-n.ensures next,
      walk_step _ _ _ _ _ _ _ _ _ (at l.rows) (at c.child_rows-child.result) (at c.join_rows.new.rows) c.args.self.now.sized.short l.invariant.0 before
          c.size_at-n.ensures c.child_rows-child.ensures c.join_rows.ensures l.invariant.3,
    )

pub returns : goal.returns
returns c = let l = c.loop-v in walk_end _ _ _ _ _ _ _ l.v (at l.rows) (omega arith) l.invariant.3
