-- `asking::ask_span` meets its contract, each return by the tests on the way to it. Assumes nothing.
use borrow.Author.Tests.{not-true, not-false}
use Rattle.pool_state.proofs.Seats.{seated-refused, seated-at}
use Rattle.change_many.proofs.Asked.{span-refused, span-family, span-outside, span-backward, span-ready}
use Rattle.nets.proofs.Propagated.{propagated}
use Rattle.change_many.proofs.asking.ask_span.Goals as goal

pub returns-then-s-seat : goal.returns-then-s-seat
returns-then-s-seat c = span-family _ (seated-at _ _ c.seat_of.ensures _ _ c.in_ok-found.was) c.if-s-seat.true

pub returns-then-not-is_span : goal.returns-then-not-is_span
returns-then-not-is_span c = span-outside _ (seated-at _ _ c.seat_of.ensures _ _ c.in_ok-found.was) c.if-s-seat.false c.is_span.ensures (not-true _ c.if-not-is_span.true-raw)

pub returns-then-is_backward : goal.returns-then-is_backward
returns-then-is_backward c = span-backward _ (seated-at _ _ c.seat_of.ensures _ _ c.in_ok-found.was) c.if-s-seat.false c.is_span.ensures (not-false _ c.if-not-is_span.false-raw) c.is_backward.ensures c.if-is_backward.true

pub returns-in_err-found : goal.returns-in_err-found
returns-in_err-found c = rw (propagated c.from_residual.ensures) (span-refused _ c.in_err-found.field-0.0 (seated-refused _ _ c.seat_of.ensures _ c.in_err-found.was))

pub returns : goal.returns
returns c = span-ready _ (seated-at _ _ c.seat_of.ensures _ _ c.in_ok-found.was) c.if-s-seat.false c.is_span.ensures (not-false _ c.if-not-is_span.false-raw) c.is_backward.ensures c.if-is_backward.false
