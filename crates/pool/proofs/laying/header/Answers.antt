-- `laying::header` meets its contract: four stores are one write, and one stands behind them. Assumes nothing.
use native.Mathlib.Omega.{arith}
use lib.ListN.{length-set}
use Rattle.pool_state.proofs.Setups.{set-header}
use Rattle.pool.proofs.laying.header.Goals as goal

pub bounds-pool-1 : goal.bounds-pool-1
bounds-pool-1 c = simp length-set (omega arith)

pub bounds-pool-2 : goal.bounds-pool-2
bounds-pool-2 c = simp length-set (omega arith)

pub bounds-pool-3 : goal.bounds-pool-3
bounds-pool-3 c = simp length-set (omega arith)

pub bounds-pool-5 : goal.bounds-pool-5
bounds-pool-5 c = simp length-set (omega arith)

pub returns : goal.returns
returns c = set-header _ _ _ _ _ _
