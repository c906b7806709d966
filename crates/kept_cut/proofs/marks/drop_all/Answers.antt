-- `marks::drop_all` meets its contract. Assumes nothing.
use Rattle.kept_cut.proofs.Closed.{none-at, some_at, mark-asks, mark-done, mark-none}
use Rattle.kept_cut.proofs.marks.drop_all.Goals as goal

pub returns-then-i-e : goal.returns-then-i-e
returns-then-i-e c p t g = mark-none g (none-at g c.if-i-e.true)

pub set_mark-requires : goal.set_mark-requires
set_mark-requires c = let (p, t, g) = c.requires in mark-asks g (some_at g c.if-i-e.false)

pub returns : goal.returns
returns c p t g = mark-done g (some_at g c.if-i-e.false) c.set_mark.ensures
