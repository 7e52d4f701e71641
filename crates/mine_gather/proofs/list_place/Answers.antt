use Rattle.mine_gather.proofs.FoundLaws.{found_known}
use Rattle.mine_gather.proofs.GatherLaws.{gather_known, gather_put, gather_hinted}
use Rattle.mine_gather.proofs.list_place.Goals as goal

pub returns-in-Known : goal.returns-in-Known
returns-in-Known c = let a = c.args in
    gather_known a.w a.log.now _ a.n a.work.now c.requires.3.all
    (found_known _ c.in-Known.is _ a.w _ a.log.now a.at c.events_at.ensures c.look_up-found.ensures)

pub returns-in-Room : goal.returns-in-Room
returns-in-Room c = let a = c.args in
    gather_hinted a.w a.log.now a.at a.n a.work.now c.requires.3 c.requires.0 c.requires.1 c.requires.2 _ c.put.ensures _ _ _ c.put-in-Room.ensures

pub returns-in-Crowded : goal.returns-in-Crowded
returns-in-Crowded c = let a = c.args in
    gather_put a.w a.log.now a.at a.n a.work.now c.requires.3 c.requires.0 c.requires.1 c.requires.2 _ c.put-in-Crowded.ensures
