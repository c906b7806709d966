-- `build` meets its contract: nothing is written of an empty list, and else what `grow` writes. Assumes nothing.
use borrow.Author.Rules.{rules}
use Rattle.setfile_build.proofs.Filling.{fill_none, fill-due}
use Rattle.setfile_build.proofs.build.Goals as goal

pub open-head-requires : goal.open-head-requires
open-head-requires c = let (l, g) = c.requires in (l, g.reads)

pub returns-then-head-eq0 : goal.returns-then-head-eq0
returns-then-head-eq0 c l g = fill_none g (c.open-head.ensures l g.reads) c.if-head-eq0.true

pub grow-requires : goal.grow-requires
grow-requires c = let (l, g) = c.requires in (_, fill-due g (c.open-head.ensures l g.reads) c.if-head-eq0.false)

pub returns : goal.returns
returns c l g = c.grow.ensures _ (fill-due g (c.open-head.ensures l g.reads) c.if-head-eq0.false)
