-- `sharing::zeros` meets its contract, by the first of its words that is not 0. Assumes nothing.
use native.Mathlib.Omega.{arith}
use lib.Count.{leading_le}
use Rattle.address_order.proofs.Common.{zeros-low, zeros-high}
use Rattle.address_order.proofs.sharing.zeros.Goals as goal

pub overflow_cast-result : goal.overflow_cast-result
overflow_cast-result c = omega (arith, leading_le 64 c.args.lo)

pub overflow_add-result : goal.overflow_add-result
overflow_add-result c = omega (arith, leading_le 64 c.args.lo)

pub returns-then-hi-eq0 : goal.returns-then-hi-eq0
returns-then-hi-eq0 c = let a = c.args in omega (arith, zeros-low a.hi a.lo (omega arith) (omega arith))

pub overflow_cast-result-2 : goal.overflow_cast-result-2
overflow_cast-result-2 c = omega (arith, leading_le 64 c.args.hi)

pub returns : goal.returns
returns c = let a = c.args in zeros-high a.hi a.lo c.if-hi-eq0.false (omega arith) (omega arith)
