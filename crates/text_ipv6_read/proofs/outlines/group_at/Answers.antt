-- `outlines::group_at` meets its contract: the group stands before the zeros, is one of them, or stands behind. Assumes nothing.
use Rattle.text_ipv6_read.proofs.Laying.{group-front, group-zero, group-behind}
use Rattle.text_ipv6_read.proofs.outlines.group_at.Goals as goal

pub returns-then-i-gap : goal.returns-then-i-gap
returns-then-i-gap c = group-front c.args.o c.args.i c.requires.0 c.requires.1 (rw c.unwrap_or-gap.ensures at c.if-i-gap.true)

pub returns-then-i-gap-2 : goal.returns-then-i-gap-2
returns-then-i-gap-2 c = group-zero c.args.o c.args.i c.requires.0 c.requires.1 (rw c.unwrap_or-gap.ensures at c.if-i-gap.false) (rw c.unwrap_or-gap.ensures at c.if-i-gap-2.true)

pub returns : goal.returns
returns c = group-behind c.args.o c.args.i c.requires.0 c.requires.1 (rw c.unwrap_or-gap.ensures at c.if-i-gap-2.false)
