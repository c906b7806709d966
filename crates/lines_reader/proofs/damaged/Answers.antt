-- `damaged` meets its contract. Assumes nothing.
use Rattle.lines_reader.proofs.damaged.Goals as goal

pub returns : goal.returns
returns c = rw c.number.ensures
