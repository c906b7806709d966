-- `laying::count_marks` meets its contract. The loop's invariant: what is left to count completes the count. Assumes nothing.
use native.Mathlib.Omega.{arith}
use Rattle.pool_state.proofs.Setups.{marking-from, marking-next, marking-count}
use Rattle.pool.proofs.laying.count_marks.Goals as goal

pub loop-init : goal.loop-init
loop-init c = marking-from _ _

pub overflow_add-n : goal.overflow_add-n
overflow_add-n c = let l = c.loop.invariant in omega (arith, l.few, c.loop-test.true)

pub loop-preserved : goal.loop-preserved
loop-preserved c = marking-next c.loop.invariant c.loop-test.true

pub returns : goal.returns
returns c = marking-count c.loop.invariant (omega (arith, c.loop-test.false))
