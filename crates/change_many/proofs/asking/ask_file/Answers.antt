-- `asking::ask_file` meets its contract, each return by the tests on the way to it. Assumes nothing.
use Rattle.pool_state.proofs.Seats.{seated-refused, seated-at}
use Rattle.change_many.proofs.Asked.{file-refused, file-broken, file-family, file-ready}
use Rattle.nets.proofs.Propagated.{propagated}
use Rattle.change_many.proofs.asking.ask_file.Goals as goal

pub returns-then-family-seat : goal.returns-then-family-seat
returns-then-family-seat c = file-family _ (seated-at _ _ c.seat_of.ensures _ _ c.in_ok-found.was) c.check.ensures c.in-Some.is c.if-family-seat.true

pub returns-in_err-found : goal.returns-in_err-found
returns-in_err-found c = rw (propagated c.from_residual.ensures) (file-refused _ c.in_err-found.field-0.0 (seated-refused _ _ c.seat_of.ensures _ c.in_err-found.was))

pub returns-in_default : goal.returns-in_default
returns-in_default c = file-broken _ (seated-at _ _ c.seat_of.ensures _ _ c.in_ok-found.was) c.check.ensures c.in_default.is

pub returns : goal.returns
returns c = file-ready _ (seated-at _ _ c.seat_of.ensures _ _ c.in_ok-found.was) c.check.ensures c.in-Some.is c.if-family-seat.false
