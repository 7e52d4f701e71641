use Rattle.cut_parts.proofs.RemainingLaws.{Left}
use Rattle.cut_parts.proofs.remaining.Given as goal

abbrev pub invariant-loop-part : goal.invariant-loop-part
invariant-loop-part l = Left l.codes l.part-items l.part-index l.left
