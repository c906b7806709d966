-- `poured_size` meets its contract. Assumes nothing.
use Rattle.setfile_pour.proofs.Pouring.{count-start}
use Rattle.setfile_pour.proofs.poured_size.Goals as goal

pub begin-s-requires : goal.begin-s-requires
begin-s-requires c = let (l, t, g) = c.requires in (l, g.reads)

pub count-x-requires : goal.count-x-requires
count-x-requires c = let (l, t, g) = c.requires in (_, _, _, _, t, count-start g (c.begin-s.ensures.1 l g.reads))

pub returns : goal.returns
returns c l t g = (c.count-x.ensures _ _ _ _ t (count-start g (c.begin-s.ensures.1 l g.reads))).0
