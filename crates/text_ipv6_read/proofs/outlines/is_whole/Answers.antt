-- `outlines::is_whole` meets its contract. Assumes nothing.
use Rattle.text_ipv6_read.proofs.outlines.is_whole.Goals as goal

pub returns-in-Some : goal.returns-in-Some
returns-in-Some c = rw c.in-Some.is

pub returns-in-None : goal.returns-in-None
returns-in-None c = rw c.in-None.is
