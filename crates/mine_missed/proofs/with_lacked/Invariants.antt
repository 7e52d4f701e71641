use Rattle.mine_missed.proofs.MissedLaws.{Below}
use Rattle.mine_missed.proofs.with_lacked.Given as goal

abbrev pub invariant-loop-k : goal.invariant-loop-k
invariant-loop-k l = Below l.own.bits l.sets l.missed l.m l.k
