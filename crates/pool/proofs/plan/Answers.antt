-- `plan` meets its contract: the record of the set has its share and its limit. Assumes nothing.
use native.Mathlib.Omega.{arith}
use Rattle.pool_state.proofs.Seats.{seated-refused, seated-at}
use Rattle.pool_state.proofs.Seen.{seen, figures}
use Rattle.pool.proofs.Reports.{plan-refused, plan-numbers}
use Rattle.nets.proofs.Propagated.{propagated}
use Rattle.pool.proofs.plan.Goals as goal

pub bounds-pool-record : goal.bounds-pool-record
bounds-pool-record c = omega (arith, figures ((seated-at _ _ c.seat_of.ensures _ _ c.in_ok-seat_of.was).surveyed))

pub bounds-pool-record-2 : goal.bounds-pool-record-2
bounds-pool-record-2 c = omega (arith, figures ((seated-at _ _ c.seat_of.ensures _ _ c.in_ok-seat_of.was).surveyed))

pub returns-in_err-seat_of : goal.returns-in_err-seat_of
returns-in_err-seat_of c = rw (propagated c.from_residual.ensures) (plan-refused _ _ (seated-refused _ _ c.seat_of.ensures _ c.in_err-seat_of.was))

pub returns : goal.returns
returns c = plan-numbers (seen ((seated-at _ _ c.seat_of.ensures _ _ c.in_ok-seat_of.was).surveyed)).1
