-- `simplify` meets its contract, each return by the tests and the steps on the way to it. Assumes nothing.
use native.Mathlib.Omega.{arith}
use borrow.Author.Rules.{rules}
use Rattle.pool_state.proofs.Seats.{Seats, seats-base, seated-refused, seated-at}
use Rattle.pool_state.proofs.Seen.{seen, figures}
use Rattle.change_simplify.proofs.Simplified.{return_refused, gap-closes, roots-move, return-granted}
use Rattle.nets.proofs.Propagated.{propagated}
use Rattle.change_simplify.proofs.simplify.Goals as goal

pub stride_of-stride-requires : goal.stride_of-stride-requires
stride_of-stride-requires c = omega (arith, figures (seated-at _ _ c.seat_of.ensures _ _ c.in_ok-found.was).surveyed)

pub shrink-nodes-requires : goal.shrink-nodes-requires
shrink-nodes-requires c = let h = (seated-at _ _ c.seat_of.ensures _ _ c.in_ok-found.was) in (h.seat, (_, h.surveyed))

pub shift_behind-requires : goal.shift_behind-requires
shift_behind-requires c = let h = (seated-at _ _ c.seat_of.ensures _ _ c.in_ok-found.was) in
    gap-closes (seen h.surveyed).1 (seats-base h) c.stride_of-stride.ensures (c.shrink-nodes.ensures _ h.surveyed)

pub granted-requires : goal.granted-requires
granted-requires c = let h = (seated-at _ _ c.seat_of.ensures _ _ c.in_ok-found.was) in
    roots-move (seen h.surveyed).1 (seats-base h) c.stride_of-stride.ensures (c.shrink-nodes.ensures _ h.surveyed) c.shift_behind.ensures

pub returns-in_err-found : goal.returns-in_err-found
returns-in_err-found c = rw (propagated c.from_residual.ensures) (return_refused c.in_err-found.field-0.0 (seated-refused _ _ c.seat_of.ensures _ c.in_err-found.was))

pub returns : goal.returns
returns c = let h = (seated-at _ _ c.seat_of.ensures _ _ c.in_ok-found.was) in
    return-granted (seen h.surveyed).1 (seats-base h) c.stride_of-stride.ensures (c.shrink-nodes.ensures _ h.surveyed) c.shift_behind.ensures c.granted.ensures
