-- `write` meets its contract. Assumes nothing.
use borrow.Author.Rules.{rules}
use Rattle.setfile_pour.proofs.write.Goals as goal

pub begin-s-requires : goal.begin-s-requires
begin-s-requires c = let (l, t, g) = c.requires in (l, g.reads)

pub fill-requires : goal.fill-requires
fill-requires c = let (l, t, g) = c.requires in (_, _, _, _, t, c.begin-s.ensures.1 l g.reads, g.fills)

pub returns : goal.returns
returns c l t g = (c.fill.ensures _ _ _ _ t (c.begin-s.ensures.1 l g.reads) g.fills).0.wrote
