-- `bytes::u16_at` meets its contract. Assumes nothing.
use Rattle.calls_bytes.specs.Bytes.{u16_at}
use Rattle.calls_bytes.proofs.bytes.u16_at.Goals as goal

pub returns : goal.returns
unfolding u16_at
returns c = rw (c.byte_at.ensures, c.byte_at-2.ensures)
