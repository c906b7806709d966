-- `records::net_at` meets its contract, byte by byte. Assumes nothing.
use Rattle.calls_bytes.specs.Records.{net_at}
use Rattle.calls_bytes.proofs.records.net_at.Goals as goal

pub returns : goal.returns
unfolding net_at
returns c = rw (c.byte_at.ensures, c.u64_at.ensures, c.u64_at-2.ensures, c.byte_at-2.ensures)
