-- `beginning::begin` meets its contract, each return by the tests on the way to it. Assumes nothing.
use Rattle.pool_state.proofs.Seats.{seated-refused}
use Rattle.listing.proofs.Seats.{seated-sits}
use Rattle.walk.proofs.Steps.{begins-refused, begins-at}
use Rattle.walk.proofs.beginning.begin.Goals as goal

pub returns-in-Err : goal.returns-in-Err
returns-in-Err c = rw (c.before_all.ensures, c.nowhere.ensures, c.number.ensures)
    (begins-refused _ _ _ (seated-refused _ _ c.seat_of-seated.ensures _ c.in-Err.is))

pub returns-in-Ok : goal.returns-in-Ok
returns-in-Ok c = rw c.before_all-in-Ok.ensures (begins-at (seated-sits _ _ c.seat_of-seated.ensures _ _ c.in-Ok.is).1)
