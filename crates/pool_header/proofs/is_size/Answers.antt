-- `checking::is_size` meets its contract: its tests are those of `is_size`. Assumes nothing.
use borrow.Author.Tests.{le-leb, lt-leb}
use Rattle.pool_header.proofs.is_size.Goals as goal

pub returns-then-sets-lt1 : goal.returns-then-sets-lt1
returns-then-sets-lt1 c = rw (lt-leb 1 _ c.if-sets-lt1.true)

pub returns-then-sets-gt-MOST_SETS : goal.returns-then-sets-gt-MOST_SETS
returns-then-sets-gt-MOST_SETS c = rw (le-leb 1 _ c.if-sets-lt1.false, lt-leb _ 64 c.if-sets-gt-MOST_SETS.true)

pub returns-then-nodes-lt1 : goal.returns-then-nodes-lt1
returns-then-nodes-lt1 c = rw (le-leb 1 _ c.if-sets-lt1.false, le-leb _ 64 c.if-sets-gt-MOST_SETS.false, lt-leb 1 _ c.if-nodes-lt1.true)

pub returns : goal.returns
returns c = rw (le-leb 1 _ c.if-sets-lt1.false, le-leb _ 64 c.if-sets-gt-MOST_SETS.false, le-leb 1 _ c.if-nodes-lt1.false)
