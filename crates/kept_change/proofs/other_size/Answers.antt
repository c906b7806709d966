-- `other_size` meets its contract, by the side. Assumes nothing.
use Rattle.kept_change.proofs.other_size.Goals as goal

pub returns-then-bit : goal.returns-then-bit
returns-then-bit c = rw c.if-bit.true

pub returns : goal.returns
returns c = rw c.if-bit.false
