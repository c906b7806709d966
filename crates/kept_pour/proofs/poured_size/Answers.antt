-- `poured_size` meets its contract. Assumes nothing.
use Rattle.kept_pour.proofs.Pouring.{count-start}
use Rattle.kept_pour.proofs.poured_size.Goals as goal

pub begin-s-requires : goal.begin-s-requires
begin-s-requires c = let (l, t, g) = c.requires in (l, g.reads)

pub count-x-requires : goal.count-x-requires
count-x-requires c = let (l, t, g) = c.requires in
    let k = c.begin-s.ensures in
    (_, _, _, _, t, count-start k.0 (k.1 l g.reads) _ g)

pub returns : goal.returns
returns c l t g = let k = c.begin-s.ensures in
    (c.count-x.ensures _ _ _ _ t (count-start k.0 (k.1 l g.reads) _ g)).0
