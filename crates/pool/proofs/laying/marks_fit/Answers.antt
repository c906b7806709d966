-- `laying::marks_fit` meets its contract. The loop's invariant: what is left of the marks decides. Assumes nothing.
use native.Mathlib.Omega.{arith}
use Rattle.pool_state.proofs.Setups.{marking-from, marking-next, marking-fit}
use Rattle.pool.proofs.laying.marks_fit.Goals as goal

pub loop-init : goal.loop-init
loop-init c = (0, marking-from _ _)

pub loop-preserved : goal.loop-preserved
loop-preserved c = (_, marking-next c.loop.invariant.1 c.loop-test.true)

pub returns : goal.returns
returns c = marking-fit c.loop.invariant.1 (omega (arith, c.loop-test.false))
