-- `moved` meets its contract, by its test. Assumes nothing.
use borrow.Author.Rules.{rules}
use borrow.Author.Tests.{lt-ltb, le-ltb}
use Rattle.combine_sources.proofs.moved.Goals as goal

pub returns-then-i-at : goal.returns-then-i-at
returns-then-i-at c = rw (lt-ltb _ _ c.if-i-at.true)

pub returns : goal.returns
returns c = rw (le-ltb _ _ c.if-i-at.false)
