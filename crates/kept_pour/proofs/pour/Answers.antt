-- `pour` meets its contract: what is left after cutting is written over wholly. Assumes nothing.
use Rattle.kept_pour.proofs.Poured.{pour-refills, poured}
use Rattle.kept_pour.proofs.pour.Goals as goal

pub trim-m-requires : goal.trim-m-requires
trim-m-requires c = let (l, t, g) = c.requires in (l, t, g.source)

pub refill-requires : goal.refill-requires
refill-requires c = let (l, t, g) = c.requires in
    (l, _, pour-refills g (c.trim-m.ensures l t g.source))

pub returns : goal.returns
returns c l t g = let k = c.trim-m.ensures l t g.source in
    poured g k (c.refill.ensures l _ (pour-refills g k))
