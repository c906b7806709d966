-- `trim` meets its contract. Assumes nothing.
use Rattle.kept_pour.proofs.Pouring.{cut-start}
use Rattle.kept_pour.proofs.Poured.{spliced}
use Rattle.kept_pour.proofs.trim.Goals as goal

pub begin-s-requires : goal.begin-s-requires
begin-s-requires c = let (l, t, g) = c.requires in (l, g.reads)

pub cut-x-requires : goal.cut-x-requires
cut-x-requires c = let (l, t, g) = c.requires in
    let k = c.begin-s.ensures in
    (_, _, _, _, t, cut-start k.0 (k.1 l g.reads) g)

pub returns : goal.returns
returns c l t g = let k = c.begin-s.ensures in
    spliced k.0 (c.cut-x.ensures _ _ _ _ t (cut-start k.0 (k.1 l g.reads) g)).0
