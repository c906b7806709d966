-- `trim` meets its contract. Assumes nothing.
use borrow.Author.Rules.{rules}
use Rattle.setfile_pour.proofs.Pouring.{cut-start}
use Rattle.setfile_pour.proofs.trim.Goals as goal

pub begin-s-requires : goal.begin-s-requires
begin-s-requires c = let (l, t, g) = c.requires in (l, g.reads)

pub cut-x-requires : goal.cut-x-requires
cut-x-requires c = let (l, t, g) = c.requires in (_, _, _, _, t, cut-start g (c.begin-s.ensures.1 l g.reads))

pub returns : goal.returns
returns c l t g = (c.cut-x.ensures _ _ _ _ t (cut-start g (c.begin-s.ensures.1 l g.reads))).0
