-- `bytes::u32_at` meets its contract. Assumes nothing.
use Rattle.calls_bytes.specs.Bytes.{u32_at}
use Rattle.calls_bytes.proofs.bytes.u32_at.Goals as goal

pub returns : goal.returns
unfolding u32_at
returns c = rw (c.u16_at.ensures, c.u16_at-2.ensures)
