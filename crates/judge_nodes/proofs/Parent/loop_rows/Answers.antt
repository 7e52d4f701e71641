use native.Mathlib.Omega.{arith}
use Rattle.judge_rows.specs.Rows.{at}
use Rattle.judge_subtrees.proofs.EntryLaws.{other_children}
use Rattle.judge_nodes.proofs.ChildrenLaws.{loop_children}
use Rattle.judge_nodes.proofs.Parent.loop_rows.Goals as goal

pub list_rows-redo-requires : goal.list_rows-redo-requires
list_rows-redo-requires c = let next = other_children _ _ _ c.requires.0 (omega arith) in
    (rw c.size_at-n.ensures next, c.requires.1, omega (arith, c.requires.2, c.size_at-n.ensures))

pub returns : goal.returns
returns c = loop_children _ _ _ _ _ _ _ (at c.child_rows-body.result) (at c.list_rows-redo.result) (at c.loop_rows.result) c.args.self.now.sized.short (omega arith)
    c.size_at-n.ensures c.child_rows-body.ensures c.list_rows-redo.ensures c.loop_rows.ensures
