use Rattle.mine_places.proofs.CodesLaws.{left_less}
use Rattle.mine_gather.proofs.slot_of.Goals as goal

pub loop-c-smaller-then-not-c : goal.loop-c-smaller-then-not-c
loop-c-smaller-then-not-c c = search left_less

pub loop-c-smaller : goal.loop-c-smaller
loop-c-smaller c = search left_less
