-- `laying::records` meets its contract. The loop's invariant: the records to come complete it. Assumes nothing.
use lib.ListN.{length-set}
use native.Mathlib.Omega.{arith}
use Rattle.pool_state.proofs.Setups.{records-start, records-turn, records-end}
use Rattle.pool.proofs.laying.records.Goals as goal

pub loop-s-init : goal.loop-s-init
loop-s-init c = records-start _ _ _

pub bounds-pool-at-in-loop-s : goal.bounds-pool-at-in-loop-s
bounds-pool-at-in-loop-s c = simp length-set (omega arith)

pub bounds-pool-at-in-loop-s-2 : goal.bounds-pool-at-in-loop-s-2
bounds-pool-at-in-loop-s-2 c = simp length-set (omega arith)

pub bounds-pool-at-in-loop-s-3 : goal.bounds-pool-at-in-loop-s-3
bounds-pool-at-in-loop-s-3 c = simp length-set (omega arith)

pub loop-s-preserved : goal.loop-s-preserved
loop-s-preserved c = records-turn c.loop-s.invariant c.requires.shares_len c.loop-s-test.true

pub returns : goal.returns
returns c = records-end c.loop-s.invariant c.loop-s-test.false
