-- `strings::bit_at` meets its contract, by words. Assumes nothing.
use native.Mathlib.Omega.{arith}
use Rattle.nets.proofs.Numbers.{width-le}
use Rattle.kept_reading.proofs.ByWords.{bit-within, bit-low, bit_high}
use Rattle.kept_reading.proofs.strings.bit_at.Goals as goal

pub overflow_sub-j : goal.overflow_sub-j
overflow_sub-j c = omega (arith, c.width.ensures, bit-within c.requires.0 _ c.requires.1)

pub overflow_sub-j-2 : goal.overflow_sub-j-2
overflow_sub-j-2 c = omega (arith, c.width.ensures, bit-within c.requires.0 _ c.requires.1)

pub returns-then-j-lt64 : goal.returns-then-j-lt64
returns-then-j-lt64 c = bit-low c.requires.0 _ c.requires.1 (rw c.width.ensures) c.if-j-lt64.true

pub overflow_shr-result-2 : goal.overflow_shr-result-2
overflow_shr-result-2 c = omega (arith, c.width.ensures, width-le c.args.q.family)

pub returns : goal.returns
returns c = bit_high c.requires.0 _ c.requires.1 (rw c.width.ensures) c.if-j-lt64.false
