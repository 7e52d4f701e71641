use Rattle.mine_trails.proofs.TrailLaws.{stop_open, stop_closed}
use Rattle.mine_trails.proofs.closed.Goals as goal

pub returns-in-Some : goal.returns-in-Some
returns-in-Some c kept w = let l = rw c.in-Some.is at c.requires in rw c.in-Some.is (stop_open _ _ kept w _ l c.ended.ensures)

pub returns-in-None : goal.returns-in-None
returns-in-None c kept w = rw c.in-None.is (stop_closed _ kept w)
