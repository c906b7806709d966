-- `asking::query_at` meets its contract: three numbers of the row. Assumes nothing.
use borrow.Author.Rules.{rules}
use Rattle.lookup_many.proofs.asking.query_at.Goals as goal

pub returns : goal.returns
returns c = rw c.byte_of.ensures
