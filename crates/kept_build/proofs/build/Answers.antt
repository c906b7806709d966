-- `build` meets its contract: nothing is written of an empty list, and else what `grow` writes. Assumes nothing.
use borrow.Author.Tests.{not-true, not-false}
use Rattle.kept_build.proofs.Filling.{filled, fill_none, fill-grows}
use Rattle.kept_build.proofs.build.Goals as goal

pub begin-s-requires : goal.begin-s-requires
begin-s-requires c = let (l, g) = c.requires in (l, g.reads)

pub returns-then-not-s : goal.returns-then-not-s
returns-then-not-s c l g = let k = c.begin-s.ensures in fill_none g k.0 (k.1 l g.reads) (not-true _ c.if-not-s.true)

pub grow-r-requires : goal.grow-r-requires
grow-r-requires c = let k = c.begin-s.ensures in
    let (l, g) = c.requires in
    (_, _, _, _, fill-grows g k.0 (k.1 l g.reads) (not-false _ c.if-not-s.false))

pub returns : goal.returns
returns c l g = let k = c.begin-s.ensures in
    filled g (c.grow-r.ensures _ _ _ _ (fill-grows g k.0 (k.1 l g.reads) (not-false _ c.if-not-s.false))).0
