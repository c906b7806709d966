-- `reading::eight` meets its contract: two numbers of four bytes are one of eight. Assumes nothing.
use native.Mathlib.Omega.{arith}
use Rattle.setfile_entries.proofs.Numbers.{big_endian-eight}
use Rattle.setfile_entries.proofs.reading.eight.Goals as goal

pub four-b-requires : goal.four-b-requires
four-b-requires c = (omega arith, omega arith)

pub returns : goal.returns
returns c = let a = c.args in rw (c.four-a.ensures.value, c.four-b.ensures.value) (big_endian-eight a.at a.bytes.now)
