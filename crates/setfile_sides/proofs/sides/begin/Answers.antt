-- `sides::begin` meets its contract. Assumes nothing.
use Rattle.std.proofs.Common.{rules}
use Rattle.setfile_sides.proofs.Opened.{begun-along}
use Rattle.setfile_sides.proofs.sides.begin.Goals as goal

pub returns : goal.returns
returns c l e = begun-along e (c.open-head.ensures l e) c.arrived.ensures
