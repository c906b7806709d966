-- `next` meets its contract, each return by the tests on the way to it. Assumes nothing.
use borrow.Author.Rules.{rules}
use Rattle.pool_state.proofs.Seats.{seated-refused}
use Rattle.listing.specs.Places.{Right}
use Rattle.listing.proofs.Seats.{seated-sits}
use Rattle.listing.proofs.Calls.{next-refused, next-misplaced, next-goes, next-network, next-end}
use Rattle.nets.proofs.Propagated.{propagated}
use Rattle.listing.proofs.next.Goals as goal

pub go_on-x-requires : goal.go_on-x-requires
go_on-x-requires c =
    let h = seated-sits c.args.pool.now c.args.set c.seat_of.ensures _ c.in_ok-s.s c.in_ok-s.was in
    let r : Right c.in_ok-s.s c.args.from c.in_ok-place.place = rw c.in_ok-place.was at c.place_of.ensures in
    next-goes h.1 _ r

pub returns-then-x : goal.returns-then-x
returns-then-x c =
    let h = seated-sits c.args.pool.now c.args.set c.seat_of.ensures _ c.in_ok-s.s c.in_ok-s.was in
    let r : Right c.in_ok-s.s c.args.from c.in_ok-place.place = rw c.in_ok-place.was at c.place_of.ensures in
    next-network h.1 _ r c.go_on-x.ensures c.if-x.true

pub returns-in_err-s : goal.returns-in_err-s
returns-in_err-s c = rw (propagated c.from_residual.ensures) (next-refused _ _ _ _ (seated-refused _ _ c.seat_of.ensures _ c.in_err-s.was))

pub returns-in_err-place : goal.returns-in_err-place
returns-in_err-place c =
    let h = seated-sits c.args.pool.now c.args.set c.seat_of.ensures _ c.in_ok-s.s c.in_ok-s.was in
    rw (propagated c.from_residual-in_err-place.ensures) (next-misplaced h.1 _ c.in_err-place.field-0.0 (rw c.in_err-place.was at c.place_of.ensures))

pub returns : goal.returns
returns c =
    let h = seated-sits c.args.pool.now c.args.set c.seat_of.ensures _ c.in_ok-s.s c.in_ok-s.was in
    let r : Right c.in_ok-s.s c.args.from c.in_ok-place.place = rw c.in_ok-place.was at c.place_of.ensures in
    next-end h.1 _ r c.go_on-x.ensures c.if-x.false
