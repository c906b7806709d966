-- `sides::arrived` meets its contract. Assumes nothing.
use Rattle.std.proofs.Common.{refl, rules}
use Rattle.setfile_sides.proofs.Standing.{arrived-stands}
use Rattle.setfile_sides.proofs.sides.arrived.Goals as goal

pub returns : goal.returns
returns c f q ms g i = (arrived-stands f q ms _ _ _ c.last.ensures g i, refl)
