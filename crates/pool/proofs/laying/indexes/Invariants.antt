-- `laying::indexes` meets its contract. The loop's invariant: the tags and indexes to come complete it. Assumes nothing.
use Rattle.pool_state.proofs.Setups.{Indexing}
use Rattle.pool.proofs.laying.indexes.Given as goal

abbrev pub invariant-loop-s : goal.invariant-loop-s
invariant-loop-s l = Indexing l.at l.sets l.indexed l.initial.pool l.pool l.s l.j l.x
