-- `bytes::u64_at` meets its contract. Assumes nothing.
use Rattle.calls_bytes.specs.Bytes.{u64_at}
use Rattle.calls_bytes.proofs.bytes.u64_at.Goals as goal

pub returns : goal.returns
unfolding u64_at
returns c = rw (c.u32_at.ensures, c.u32_at-2.ensures)
