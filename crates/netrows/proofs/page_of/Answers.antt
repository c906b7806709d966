-- `page_of` hands on what `list` answers on a page of zeros, which is `blank`.
use Rattle.netrows.specs.Rows.{blank}
use Rattle.netrows.proofs.page_of.Goals as goal

pub returns : goal.returns
unfolding blank
returns c = c.list-answer.ensures
