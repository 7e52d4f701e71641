use native.Mathlib.Omega.{arith}
use Rattle.judge_events.proofs.CopyLaws.{copied_beat, copied_event, copied_all}
use Rattle.judge_events.proofs.copy_events.Goals as goal
use Rattle.judge_events.proofs.copy_events.Goals.{then-c-ne-HEARTBEAT, else-c-ne-HEARTBEAT}

pub loop-c-preserved : goal.loop-c-preserved
loop-c-preserved c = let l = c.loop-c in
    elim c.if-c-ne-HEARTBEAT.branch [
      | then-c-ne-HEARTBEAT w ↦ rw (w.out-is, w.n-is) (copied_event _ _ c.requires l.n l.c-index l.out l.invariant (omega arith) w.if-c-ne-HEARTBEAT.true)
      | else-c-ne-HEARTBEAT w ↦ rw (w.out-is, w.n-is) (copied_beat _ _ c.requires l.n l.c-index l.out l.invariant (omega arith) w.if-c-ne-HEARTBEAT.false)
    ]

pub returns : goal.returns
returns c = let l = c.loop-c in copied_all _ _ c.requires l.n l.c-index l.out l.invariant (omega arith) (omega arith)
