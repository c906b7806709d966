-- `reading::entry_bytes` meets its contract, by its test. Assumes nothing.
use mathlib.Core.Path.{sym}
use Rattle.setfile_format.proofs.Written.{entry_bytes-4, entry_bytes-6}
use Rattle.setfile_entries.proofs.reading.entry_bytes.Goals as goal

pub returns-then-family-eq-IPV4 : goal.returns-then-family-eq-IPV4
returns-then-family-eq-IPV4 c = sym (entry_bytes-4 _ c.if-family-eq-IPV4.true)

pub returns-else-family-eq-IPV4 : goal.returns-else-family-eq-IPV4
returns-else-family-eq-IPV4 c = sym (entry_bytes-6 _ c.if-family-eq-IPV4.false)
