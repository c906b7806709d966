-- `runs::chosen` meets its contract. Assumes nothing.
use borrow.Author.Tests.{le-leb, lt-leb}
use Rattle.text_ipv6_write.proofs.runs.chosen.Goals as goal

pub returns-then-behind-n : goal.returns-then-behind-n
returns-then-behind-n c = let a = c.args in rw (le-leb a.behind.count a.n c.if-behind-n.true)

pub returns : goal.returns
returns c = let a = c.args in rw (lt-leb a.behind.count a.n c.if-behind-n.false)
