-- `laying::shares_fit` meets its contract. The loop's invariant: the answer is that for the shares to come and the nodes that are left. Assumes nothing.
use Rattle.pool_state.proofs.Setups.{Sharing}
use Rattle.pool.proofs.laying.shares_fit.Given as goal

abbrev pub invariant-loop-s : goal.invariant-loop-s
invariant-loop-s l = Sharing l.sets l.nodes l.shares l.limits l.left l.s
