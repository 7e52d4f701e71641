use Prim.Native.Nat.{◌*◌}
use Rattle.rules.specs.Listing.{entry_lines}
use Rattle.text_writing.specs.Writing.{Wrote}
use Rattle.text_listing.proofs.entry_lines.Given as goal

abbrev pub invariant-loop-v : goal.invariant-loop-v
invariant-loop-v l = Wrote (17 * l.v) l.initial.out l.at (entry_lines l.v l.tree 0) l.out l.next
