-- `places::place_of` meets its contract, each return by the tests on the way to it. Assumes nothing.
use borrow.Author.Rules.{rules}
use Rattle.listing.proofs.Calls.{place-start, place-family, place-refused, place-past}
use Rattle.nets.proofs.Propagated.{propagated}
use Rattle.listing.proofs.places.place_of.Goals as goal

pub returns-then-net-seat : goal.returns-then-net-seat
returns-then-net-seat c = place-family _ c.in-Some.is c.if-net-seat.true

pub returns-in_default : goal.returns-in_default
returns-in_default c = place-start c.in_default.is c.before_all.ensures

pub returns : goal.returns
returns c = place-past _ c.in-Some.is _ c.to_network.ensures c.if-net-seat.false _ _ c.in_ok-n.was

pub returns-in_err-n : goal.returns-in_err-n
returns-in_err-n c = rw (propagated c.from_residual.ensures) (place-refused _ c.in-Some.is _ c.to_network.ensures c.if-net-seat.false _ c.in_err-n.was)
