-- `own_size` meets its contract, by its tests. Assumes nothing.
use Rattle.kept_sieve.proofs.Marked.{own-second, own_first, own-both}
use Rattle.kept_sieve.proofs.own_size.Goals as goal

pub returns-then-head-ge-MARK : goal.returns-then-head-ge-MARK
returns-then-head-ge-MARK c = own-second _ _ _ c.head.ensures c.if-head-ge-MARK.true

pub returns-then-head-ge-MARK-2 : goal.returns-then-head-ge-MARK-2
returns-then-head-ge-MARK-2 c = own_first _ _ _ _ c.head.ensures c.if-head-ge-MARK.false c.head-2.ensures c.if-head-ge-MARK-2.true

pub returns : goal.returns
returns c = own-both _ _ _ _ c.head.ensures c.if-head-ge-MARK.false c.head-2.ensures c.if-head-ge-MARK-2.false
