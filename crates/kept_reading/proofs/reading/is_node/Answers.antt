-- `reading::is_node` meets its contract. Assumes nothing.
use native.Mathlib.Omega.{arith}
use Rattle.kept_reading.proofs.Found.{read-longer, read-node}
use Rattle.kept_reading.proofs.reading.is_node.Goals as goal

pub returns-then-width-x : goal.returns-then-width-x
returns-then-width-x c = read-longer c.requires.kept_room c.net_at-x.ensures (omega (arith, c.width.ensures, c.if-width-x.true))

pub returns : goal.returns
returns c = rw c.has_bit_past.ensures (read-node c.requires.kept_room c.net_at-x.ensures c.requires.le_i.0 c.requires.le_i.1 (omega (
  arith,
  c.width.ensures,
  c.if-width-x.false,
)))
