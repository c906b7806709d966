-- `put_row` meets its contract. Assumes nothing.
use Rattle.calls_packed.specs.Packed.{row_after}
use Rattle.calls_packed.proofs.put_row.Goals as goal

pub returns-then-r : goal.returns-then-r
unfolding row_after
returns-then-r c = rw c.if-r.true

pub returns-else-r : goal.returns-else-r
unfolding row_after
returns-else-r c = rw c.if-r.false
