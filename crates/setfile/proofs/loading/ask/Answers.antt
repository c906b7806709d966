-- `loading::ask` meets its contract, each return by the tests on the way to it. Assumes nothing.
use Rattle.pool_state.proofs.Seats.{seated-refused, seated-at}
use Rattle.setfile.proofs.Loads.{ask-refused, ask-broken, ask-family, ask-occupied, ask-reads, ask-file}
use Rattle.nets.proofs.Propagated.{propagated}
use Rattle.setfile.proofs.loading.ask.Goals as goal

pub returns-then-family-seat : goal.returns-then-family-seat
returns-then-family-seat c = ask-family _ (seated-at _ _ c.seat_of.ensures _ _ c.in_ok-found.was) c.check.ensures c.in-Some.is c.if-family-seat.true

pub returns-then-found-ne0 : goal.returns-then-found-ne0
returns-then-found-ne0 c = ask-occupied _ (seated-at _ _ c.seat_of.ensures _ _ c.in_ok-found.was) c.check.ensures c.in-Some.is c.if-family-seat.false c.if-found-ne0.true

pub nodes_in-n-requires : goal.nodes_in-n-requires
nodes_in-n-requires c = ask-reads _ (seated-at _ _ c.seat_of.ensures _ _ c.in_ok-found.was) c.check.ensures c.in-Some.is c.if-family-seat.false

pub returns-in_err-found : goal.returns-in_err-found
returns-in_err-found c = rw (propagated c.from_residual.ensures) (ask-refused _ c.in_err-found.field-0.0 (seated-refused _ _ c.seat_of.ensures _ c.in_err-found.was))

pub returns-in_default : goal.returns-in_default
returns-in_default c = ask-broken _ (seated-at _ _ c.seat_of.ensures _ _ c.in_ok-found.was) c.check.ensures c.in_default.is

pub returns : goal.returns
returns c = ask-file _ (seated-at _ _ c.seat_of.ensures _ _ c.in_ok-found.was) c.check.ensures c.in-Some.is c.if-family-seat.false c.if-found-ne0.false c.nodes_in-n.ensures
