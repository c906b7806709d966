-- `flowing::advance` meets its contract. Assumes nothing.
use Rattle.setfile_order.proofs.First.{behind-head, stepped}
use Rattle.setfile_order.proofs.flowing.advance.Goals as goal

pub head-requires : goal.head-requires
head-requires c = let p = c.requires in
    (_, _, _, behind-head p.2 p.3 (c.move_on.ensures p.0 p.1 p.2))

pub returns : goal.returns
returns c = stepped c.move_on.ensures c.head.ensures
