-- `reading::lines` meets its contract: the pieces are fed one after the other. Assumes nothing.
use Rattle.calls_tailed.proofs.Read.{lines-small, lines-is}
use borrow.Author.Rules.{rules}
use Rattle.calls_tailed.proofs.reading.lines.Goals as goal

pub of_reader-requires : goal.of_reader-requires
of_reader-requires c = let a = c.args in
    lines-small a.pool.now a.s.now a.c c.cut_of-cut.result c.cut_of-cut.ensures c.start.ensures c.feed-first.ensures c.feed-second.ensures c.finish.ensures

pub returns : goal.returns
returns c = let a = c.args in
    lines-is a.pool.now a.s.now a.c c.cut_of-cut.result c.cut_of-cut.ensures c.start.ensures c.feed-first.ensures c.feed-second.ensures c.finish.ensures c.of_reader.ensures
