use mathlib.Core.List.{[]}
use Rattle.cut_components.specs.Joined.{join_on}
use Rattle.cut_components.proofs.SweepLaws.{Sweep}
use Rattle.cut_components.proofs.joined.Given as goal

abbrev pub invariant-loop-part : goal.invariant-loop-part
invariant-loop-part l = Sweep l.row (join_on l.row l.initial.whole [] l.part-items) l.part-items l.part-index l.whole l.kept l.m
