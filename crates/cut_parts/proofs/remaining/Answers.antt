use native.Mathlib.Omega.{arith}
use Rattle.rules.specs.Calls.{code_count}
use Rattle.cut_parts.specs.Sets.{sets_of}
use Rattle.cut_parts.proofs.RemainingLaws.{left_more, left_end}
use borrow.Author.Rules.{rules}
use Rattle.cut_parts.proofs.remaining.Goals as goal

pub loop-part-preserved : goal.loop-part-preserved
loop-part-preserved c = left_more c.args.codes _ c.loop-part.part-index c.loop-part.left code_count (omega arith) (search rules) (search rules) c.loop-part.invariant

pub returns : goal.returns
unfolding sets_of
returns c = left_end c.args.codes _ c.loop-part.part-index c.loop-part.left (omega arith) c.loop-part.invariant
