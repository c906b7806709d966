-- `records::call_at` meets its contract, number by number. Assumes nothing.
use Rattle.calls_bytes.specs.Records.{call_at}
use Rattle.calls_bytes.proofs.records.call_at.Goals as goal

pub returns : goal.returns
unfolding call_at
returns c = rw (c.byte_at.ensures, c.u32_at.ensures, c.u32_at-2.ensures, c.u32_at-3.ensures, c.net_at.ensures, c.u32_at-4.ensures)
