-- `bits::bit_at` meets its contract: the bit stands in the low word or in the high one. Assumes nothing.
use native.Mathlib.Omega.{arith}
use borrow.Author.Rules.{rules}
use Rattle.nets.proofs.Numbers.{width-le}
use Rattle.setfile_build.proofs.Digits.{bit-low, bit_high}
use Rattle.setfile_build.proofs.bits.bit_at.Goals as goal

pub returns-then-k-lt64 : goal.returns-then-k-lt64
returns-then-k-lt64 c = bit-low c.args.n c.args.d _ c.requires (omega arith) c.if-k-lt64.true

pub overflow_shr-result-2 : goal.overflow_shr-result-2
overflow_shr-result-2 c = omega (arith, width-le c.args.n.family)

pub returns : goal.returns
returns c = bit_high c.args.n c.args.d _ c.requires (omega arith) c.if-k-lt64.false (omega arith)
