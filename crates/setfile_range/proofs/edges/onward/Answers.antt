-- `edges::onward` meets its contract: the next bit goes from what is to come to what is done. Assumes nothing.
use mathlib.Core.Path.{refl}
use Rattle.setfile_range.proofs.Walking.{goes_on, bit-none, edge-onward}
use Rattle.setfile_range.proofs.edges.onward.Goals as goal

pub down-path-requires : goal.down-path-requires
down-path-requires c = let (f, p, d, q, o) = c.requires in (f, p, o.path, goes_on o)

pub returns-in-Some : goal.returns-in-Some
returns-in-Some c = (refl, λ f p d q o. edge-onward o _ c.next-next.ensures _ _ c.in-Some.is c.down-path.ensures)

pub returns-in-None : goal.returns-in-None
returns-in-None c = (refl, λ f p d q o. absurd (bit-none o _ c.next-next.ensures c.in-None.is))
