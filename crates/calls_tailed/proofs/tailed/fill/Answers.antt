-- `tailed::fill` meets its contract. Assumes nothing.
use borrow.Author.Rules.{rules}
use Rattle.calls_tailed.proofs.tailed.fill.Goals as goal

pub returns : goal.returns
returns c = c.fill_bytes.ensures
