-- `heads::begin` meets its contract. Assumes nothing.
use Rattle.setfile_order.proofs.Lined.{lined-full, behind-all}
use Rattle.setfile_order.proofs.heads.begin.Goals as goal

pub rank-requires : goal.rank-requires
rank-requires c = lined-full c.line_up.ensures

pub head-requires : goal.head-requires
head-requires c = (_, _, _, behind-all c.requires c.line_up.ensures c.rank.ensures)

pub returns : goal.returns
returns c = let b = behind-all c.requires c.line_up.ensures c.rank.ensures in
    (b.flow, c.head.ensures _ _ _ b)
