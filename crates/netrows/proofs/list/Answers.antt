-- `list` meets its contract: a refusal by its law, and each turn of the loop stores one network.
use Rattle.std.proofs.Common.{arith}
use Rattle.nets.proofs.Propagated.{propagated}
use Rattle.pool_state.proofs.Seats.{seated-refused}
use Rattle.listing.proofs.Seats.{seated-sits}
use Rattle.listing.proofs.Calls.{list-few}
use Rattle.netrows.proofs.Begun.{counted, lists-refused, lists-short, lists-granted}
use Rattle.netrows.proofs.Stored.{starts, goes, holds, steps, ends}
use Rattle.netrows.proofs.list.Goals as goal

pub returns-in_err-seat : goal.returns-in_err-seat
returns-in_err-seat c = rw (propagated c.from_residual.ensures) (lists-refused _ (seated-refused _ _ c.seat_of.ensures _ c.in_err-seat.was))

pub count-n-requires : goal.count-n-requires
count-n-requires c = let h = seated-sits c.args.pool.now c.args.set c.seat_of.ensures _ c.in_ok-seat.seat c.in_ok-seat.was in (_, h.1.holds)

pub returns-then-nets-n : goal.returns-then-nets-n
returns-then-nets-n c =
    let h = seated-sits c.args.pool.now c.args.set c.seat_of.ensures _ c.in_ok-seat.seat c.in_ok-seat.was in
    lists-short h.1 (counted h.1 c.count-n.ensures) c.if-nets-n.true

pub loop-at-init : goal.loop-at-init
loop-at-init c =
    let h = seated-sits c.args.pool.now c.args.set c.seat_of.ensures _ c.in_ok-seat.seat c.in_ok-seat.was in
    rw c.before_all-spot.ensures (starts c.args.nets.now h.1 (counted h.1 c.count-n.ensures) c.if-nets-n.false)

pub go_on-spot-requires : goal.go_on-spot-requires
go_on-spot-requires c = goes c.loop-at.invariant

pub loop-at-preserved : goal.loop-at-preserved
loop-at-preserved c =
    let h = c.loop-at.invariant in
    steps h (omega arith) c.go_on-spot.result (c.go_on-spot.ensures _ (holds h))

pub overflow_cast-result : goal.overflow_cast-result
overflow_cast-result c =
    let h = seated-sits c.args.pool.now c.args.set c.seat_of.ensures _ c.in_ok-seat.seat c.in_ok-seat.was in
    omega (arith, list-few h.1 (c.count-n.ensures _ h.1.holds))

pub returns : goal.returns
returns c =
    let h = c.loop-at.invariant in
    rw (ends h (omega arith)) (lists-granted h.sits h.count c.if-nets-n.false)
