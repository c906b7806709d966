-- `reading::compare` meets its contract: the two files are where the tail is cut. Assumes nothing.
use Rattle.calls_tailed.proofs.Read.{compare-is}
use borrow.Author.Rules.{rules}
use Rattle.calls_tailed.proofs.reading.compare.Goals as goal

pub returns : goal.returns
returns c = let a = c.args in
    compare-is a.s.now a.c c.cut_of-cut.result c.cut_of-cut.ensures c.compare.ensures c.of_compared.ensures
