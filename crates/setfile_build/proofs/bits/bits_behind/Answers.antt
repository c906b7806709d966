-- `bits::bits_behind` meets its contract: a word begins, or the bits go one place to the left. Assumes nothing.
use native.Mathlib.Omega.{arith}
use Rattle.setfile_build.proofs.Digits.{from_second, from_next}
use Rattle.setfile_build.proofs.bits.bits_behind.Goals as goal

pub returns-then-d-eq63 : goal.returns-then-d-eq63
returns-then-d-eq63 c h q = from_second _ _ h c.if-d-eq63.true (omega arith)

pub returns : goal.returns
returns c h q = from_next _ _ h c.if-d-eq63.false q
