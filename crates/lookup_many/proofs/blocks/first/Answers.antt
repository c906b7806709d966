-- `blocks::first` meets its contract, by its test. Assumes nothing.
use borrow.Author.Tests.{lt-ltb, le-ltb}
use Rattle.lookup_many.proofs.blocks.first.Goals as goal

pub returns-then-len-lt64 : goal.returns-then-len-lt64
returns-then-len-lt64 c = rw (lt-ltb c.args.len 64 c.if-len-lt64.true)

pub returns-else-len-lt64 : goal.returns-else-len-lt64
returns-else-len-lt64 c = rw (le-ltb c.args.len 64 c.if-len-lt64.false)
