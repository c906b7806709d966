-- `replan` meets its contract, each return by the tests on the way to it. Assumes nothing.
use mathlib.Core.Path.{refl}
use native.Mathlib.Omega.{arith}
use borrow.Author.Rules.{rules}
use borrow.Author.Tests.{not-true, not-false}
use lib.ListN.{length-set}
use Rattle.pool_state.specs.States.{State}
use Rattle.pool_state.specs.Steps.{Surveyed}
use Rattle.pool_state.proofs.Seats.{seated-refused, seated-at}
use Rattle.pool_state.proofs.Seen.{seen, figures}
use Rattle.replan.proofs.Plans.{replan-seat, replan-refused, replan-granted}
use Rattle.nets.proofs.Propagated.{propagated}
use Rattle.replan.proofs.replan.Goals as goal

pub may_plan-requires : goal.may_plan-requires
may_plan-requires c = ((seated-at _ _ c.seat_of.ensures _ _ c.in_ok-found.was).surveyed)

pub returns-then-not-may_plan : goal.returns-then-not-may_plan
returns-then-not-may_plan c = let (S, h) = seen ((seated-at _ _ c.seat_of.ensures _ _ c.in_ok-found.was).surveyed) in replan-refused _ _ h (c.may_plan.ensures S h.decoded) (not-true _ c.if-not-may_plan.true-raw)

pub bounds-pool-record : goal.bounds-pool-record
bounds-pool-record c = omega (arith, figures ((seated-at _ _ c.seat_of.ensures _ _ c.in_ok-found.was).surveyed))

pub bounds-pool-record-2 : goal.bounds-pool-record-2
bounds-pool-record-2 c = simp length-set (omega (arith, figures ((seated-at _ _ c.seat_of.ensures _ _ c.in_ok-found.was).surveyed)))

pub returns-in_err-found : goal.returns-in_err-found
returns-in_err-found c = rw (propagated c.from_residual.ensures) (replan-seat _ _ c.in_err-found.field-0.0 (seated-refused _ _ c.seat_of.ensures _ c.in_err-found.was))

pub returns : goal.returns
returns c = let (S, h) = seen ((seated-at _ _ c.seat_of.ensures _ _ c.in_ok-found.was).surveyed) in
    replan-granted _ _ h (c.may_plan.ensures S h.decoded) (not-false _ c.if-not-may_plan.false-raw) refl
