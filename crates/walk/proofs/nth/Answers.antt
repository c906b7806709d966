-- `nth` meets its contract: what is told at the spot that is reached. Assumes nothing.
use Rattle.walk.proofs.Reached.{tells-nth}
use Rattle.walk.proofs.nth.Goals as goal

pub returns : goal.returns
returns c = let a = c.args in tells-nth a.pool a.set c.reach-stage.result c.told.result a.i c.reach-stage.ensures c.told.ensures
