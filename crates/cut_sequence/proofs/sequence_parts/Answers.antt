use native.Mathlib.Omega.{arith}
use Rattle.cut_parts.specs.Sets.{lists_of}
use Rattle.cut_sequence.proofs.SequenceLaws.{grouped_is}
use Rattle.cut_sequence.proofs.sequence_parts.Goals as goal

pub returns : goal.returns
returns c = let a = c.args in
    let parts = c.components-parts in (
      omega (arith, c.in_order.ensures.0, parts.ensures.few),
      grouped_is a.rows c.reach-to.result c.transpose-from.result a.keep.bits c.reach-to.ensures c.transpose-from.ensures
          (lists_of parts.result) (lists_of c.in_order.result) parts.ensures.parts c.in_order.ensures.1,
    )
