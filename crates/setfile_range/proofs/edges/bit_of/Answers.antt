-- `edges::bit_of` meets its contract. Assumes nothing.
use Rattle.setfile_range.proofs.Walking.{bit-none, bit_is}
use Rattle.setfile_range.proofs.edges.bit_of.Goals as goal

pub returns-in-Some : goal.returns-in-Some
returns-in-Some c f p d q o = bit_is o _ c.next-next.ensures _ _ c.in-Some.is

pub returns-in-None : goal.returns-in-None
returns-in-None c f p d q o = absurd (bit-none o _ c.next-next.ensures c.in-None.is)
