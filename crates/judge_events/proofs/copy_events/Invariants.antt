use Rattle.judge_events.proofs.CopyLaws.{Copied}
use Rattle.judge_events.proofs.copy_events.Given as goal

abbrev pub invariant-loop-c : goal.invariant-loop-c
invariant-loop-c l = Copied l.episode l.initial.out l.n l.c-index l.out
