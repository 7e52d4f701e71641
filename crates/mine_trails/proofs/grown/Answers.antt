use Rattle.mine_trails.proofs.TrailLaws.{grown_pair, grown_start, grown_end}
use Rattle.mine_trails.proofs.grown.Goals as goal

pub returns-then-not-has_code : goal.returns-then-not-has_code
returns-then-not-has_code c = search grown_end

pub returns-in-Some : goal.returns-in-Some
returns-in-Some c = let l = rw c.in-Some.is at c.requires.1 in grown_pair _ _ _ _ _ c.has_code.ensures _ c.if-not-has_code.false c.requires.0 _ c.in-Some.is l c.noted.ensures

pub returns-in-None : goal.returns-in-None
returns-in-None c = search grown_start
