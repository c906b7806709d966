-- `bits::bits_from` meets its contract: the bits go to the left end of the word that has them. Assumes nothing.
use native.Mathlib.Omega.{arith}
use borrow.Author.Rules.{rules}
use Rattle.nets.proofs.Numbers.{width-le}
use Rattle.setfile_build.proofs.Digits.{from_low, from-high}
use Rattle.setfile_build.proofs.bits.bits_from.Goals as goal

pub returns-then-k-lt64 : goal.returns-then-k-lt64
returns-then-k-lt64 c h = from_low _ _ _ (omega arith) c.if-k-lt64.true

pub overflow_sub-result-2 : goal.overflow_sub-result-2
overflow_sub-result-2 c = omega (arith, width-le c.args.n.family)

pub returns : goal.returns
returns c h = from-high _ _ _ (omega arith) c.if-k-lt64.false
