-- `put_whole` meets its contract. Assumes nothing.
use mathlib.Core.List.{[]}
use native.Mathlib.Omega.{arith}
use Rattle.setfile_range.proofs.Laying.{lays-none, lays_one, whole_room}
use Rattle.setfile_range.proofs.put_whole.Goals as goal

pub returns-then-x : goal.returns-then-x
returns-then-x c = lays-none _ _ _ (rw c.if-x.true)

pub returns-then-y : goal.returns-then-y
returns-then-y c = lays-none _ _ _ (rw (c.if-x.false, c.if-y.true))

pub put_at-requires : goal.put_at-requires
put_at-requires c = ((c.args.family, [], c.whole.ensures, omega arith), whole_room c.if-x.false c.if-y.false c.requires c.file_bytes.ensures c.whole.ensures)

pub returns : goal.returns
returns c = lays_one _ _ _ _ [] (rw (c.if-x.false, c.if-y.false)) c.file_bytes.ensures (c.put_at.ensures _ [] c.whole.ensures (omega arith))
