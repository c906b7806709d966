-- `last` meets its contract: what is told at the spot that is reached. Assumes nothing.
use native.Mathlib.Omega.{arith}
use Rattle.walk.proofs.Reached.{tells-last}
use Rattle.walk.proofs.last.Goals as goal

pub returns : goal.returns
returns c = let a = c.args in tells-last a.pool a.set c.reach-stage.result c.told.result _ c.reach-stage.ensures (omega arith) c.told.ensures
