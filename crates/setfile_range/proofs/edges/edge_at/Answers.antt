-- `edges::edge_at` meets its contract: an address of the family has its bits. Assumes nothing.
use mathlib.Core.Path.{refl}
use Rattle.setfile_range.proofs.Walking.{edge-refused, edge-starts}
use Rattle.setfile_range.proofs.edges.edge_at.Goals as goal

pub returns-in-Ok : goal.returns-in-Ok
returns-in-Ok c = (refl, edge-starts _ _ c.requires.0 c.requires.1 c.width.ensures _ c.prefix_bits-prefix.ensures _ _ _ c.whole-path.ensures c.in-Ok.is)

pub returns-in-Err : goal.returns-in-Err
returns-in-Err c = absurd (edge-refused _ _ c.requires.0 c.requires.1 c.width.ensures _ c.prefix_bits-prefix.ensures _ c.in-Err.is)
