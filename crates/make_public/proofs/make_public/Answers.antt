-- `make_public` meets its contract, each return by the tests on the way to it. Assumes nothing.
use mathlib.Core.Path.{refl}
use native.Mathlib.Omega.{arith}
use borrow.Author.Rules.{rules}
use Rattle.pool_state.specs.Steps.{Surveyed}
use Rattle.pool_state.proofs.Seats.{seated-refused, seated-at}
use Rattle.pool_state.proofs.Seen.{seen, figures}
use Rattle.make_public.proofs.Marks.{mark-seat, mark-occupied, mark-granted}
use Rattle.nets.proofs.Propagated.{propagated}
use Rattle.make_public.proofs.make_public.Goals as goal

pub returns-then-found-ne0 : goal.returns-then-found-ne0
returns-then-found-ne0 c = mark-occupied (seen ((seated-at _ _ c.seat_of.ensures _ _ c.in_ok-found.was).surveyed)).1 c.if-found-ne0.true

pub bounds-pool-record : goal.bounds-pool-record
bounds-pool-record c = omega (arith, figures ((seated-at _ _ c.seat_of.ensures _ _ c.in_ok-found.was).surveyed))

pub returns-in_err-found : goal.returns-in_err-found
returns-in_err-found c = rw (propagated c.from_residual.ensures) (mark-seat c.in_err-found.field-0.0 (seated-refused _ _ c.seat_of.ensures _ c.in_err-found.was))

pub returns : goal.returns
returns c = mark-granted (seen ((seated-at _ _ c.seat_of.ensures _ _ c.in_ok-found.was).surveyed)).1 c.if-found-ne0.false refl
