-- `checking::in_limit` meets its contract, by its test. Assumes nothing.
use borrow.Author.Rules.{rules}
use borrow.Author.Tests.{le-leb, lt-leb}
use Rattle.pool_sets.proofs.in_limit.Goals as goal

pub returns-then-limit-share : goal.returns-then-limit-share
returns-then-limit-share c = rw (lt-leb _ _ c.if-limit-share.true)

pub returns : goal.returns
returns c = rw (le-leb _ _ c.if-limit-share.false)
