-- `addresses::ones` meets its contract: below 64 bits nothing is shifted out. Assumes nothing.
use Rattle.std.proofs.Common.{◌≡◌, arith, pow_pos}
use Rattle.nets.proofs.TwoWords.{shl_one}
use Rattle.ranges.proofs.addresses.ones.Goals as goal

pub overflow_sub-result : goal.overflow_sub-result
overflow_sub-result c = let k = c.args.m in rw (shl_one k c.if-m-lt64.true) (pow_pos k)

pub returns-then-m-lt64 : goal.returns-then-m-lt64
returns-then-m-lt64 c = rw (shl_one c.args.m c.if-m-lt64.true)

pub returns-else-m-lt64 : goal.returns-else-m-lt64
returns-else-m-lt64 c = let e : c.args.m ≡ 64 = omega arith in rw e
