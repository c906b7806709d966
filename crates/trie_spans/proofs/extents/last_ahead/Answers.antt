-- `extents::last_ahead` meets its contract, by its test. Assumes nothing.
use borrow.Author.Tests.{lt-ltb, le-ltb}
use Rattle.trie_spans.proofs.extents.last_ahead.Goals as goal

pub returns-then-x-lt2 : goal.returns-then-x-lt2
returns-then-x-lt2 c = rw (lt-ltb _ 2 c.if-x-lt2.true)

pub returns : goal.returns
returns c = rw (le-ltb _ 2 c.if-x-lt2.false)
