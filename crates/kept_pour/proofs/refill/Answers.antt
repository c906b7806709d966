-- `refill` meets its contract. Assumes nothing.
use mathlib.Core.List.{[]}
use Rattle.kept_pour.proofs.Fills.{path-of}
use Rattle.kept_pour.proofs.Pouring.{fill_start, filled}
use Rattle.kept_pour.proofs.refill.Goals as goal

pub begin-s-requires : goal.begin-s-requires
begin-s-requires c = let (l, t, g) = c.requires in (l, g.source.reads)

pub whole-path-requires : goal.whole-path-requires
whole-path-requires c = tt

pub fill-x-requires : goal.fill-x-requires
fill-x-requires c = let (l, t, g) = c.requires in
    let k = c.begin-s.ensures in
    let a = k.1 l g.source.reads in
    (_, _, _, _, _, path-of [] k.0 c.whole-path.ensures, a, fill_start k.0 a g)

pub returns : goal.returns
returns c l t g = let k = c.begin-s.ensures in
    let a = k.1 l g.source.reads in
    filled _ _ t k.0 (c.fill-x.ensures _ _ _ _ _ (path-of [] k.0 c.whole-path.ensures) a (fill_start k.0 a g)).0
