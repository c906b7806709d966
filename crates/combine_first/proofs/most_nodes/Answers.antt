-- `most_nodes` meets its contract, by its test. Assumes nothing.
use borrow.Author.Rules.{rules}
use borrow.Author.Tests.{lt-ltb, le-ltb}
use Rattle.combine_first.proofs.most_nodes.Goals as goal

pub returns-then-op-lt-EXCLUDE : goal.returns-then-op-lt-EXCLUDE
returns-then-op-lt-EXCLUDE c = rw (lt-ltb _ _ c.if-op-lt-EXCLUDE.true)

pub returns : goal.returns
returns c = rw (le-ltb _ _ c.if-op-lt-EXCLUDE.false)
