-- `cleared::is_clean` meets its contract: its tests are those of the definition. Assumes nothing.
use native.Mathlib.Omega.{arith}
use borrow.Author.Tests.{le-leb, lt-leb}
use Rattle.setfile_format.specs.Files.{is_clean}
use Rattle.setfile_entries.proofs.cleared.is_clean.Goals as goal

pub returns-then-n-width : goal.returns-then-n-width
unfolding is_clean
returns-then-n-width c = rw (c.has_bit_past.ensures, ← c.width.ensures, le-leb c.args.n.len c.width.result (omega arith))

pub returns-else-n-width : goal.returns-else-n-width
unfolding is_clean
returns-else-n-width c = rw (← c.width.ensures, lt-leb c.args.n.len c.width.result (omega arith))
