use Rattle.mine_missed.proofs.MissedLaws.{first_all, first_none}
use Rattle.mine_missed.proofs.at_first.Goals as goal

pub returns-then-bare : goal.returns-then-bare
returns-then-bare c = first_all _ c.if-bare.true

pub returns-else-bare : goal.returns-else-bare
returns-else-bare c = first_none _ c.if-bare.false
