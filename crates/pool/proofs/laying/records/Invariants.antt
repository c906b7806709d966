-- `laying::records` meets its contract. The loop's invariant: the records to come complete it. Assumes nothing.
use Rattle.pool_state.proofs.Setups.{Recording}
use Rattle.pool.proofs.laying.records.Given as goal

abbrev pub invariant-loop-s : goal.invariant-loop-s
invariant-loop-s l = Recording l.shares l.limits l.initial.pool l.pool l.s
