-- `add` meets its contract: the set is found, and then the network is added or refused. Assumes nothing.
use borrow.Author.Rules.{rules}
use Rattle.pool_state.proofs.Seats.{seated-refused, seated-at}
use Rattle.pool_state.proofs.Returns.{change-seat, changed}
use Rattle.change.proofs.Reported.{reports-refused, reports-granted}
use Rattle.nets.proofs.Propagated.{propagated}
use Rattle.change.proofs.add.Goals as goal

pub add_found-requires : goal.add_found-requires
add_found-requires c = (seated-at _ _ c.seat_of.ensures _ _ c.in_ok-found.was).surveyed

pub returns-in_err-found : goal.returns-in_err-found
returns-in_err-found c = rw (propagated c.from_residual.ensures) (reports-refused c.in_err-found.field-0.0 (changed (change-seat _ _ _ _ (seated-refused _ _ c.seat_of.ensures _ c.in_err-found.was))))

pub returns : goal.returns
returns c = reports-granted c.has_bit_past.ensures (rw c.in_ok-then.was at c.add_found.ensures).0

pub returns-in_err-then : goal.returns-in_err-then
returns-in_err-then c = rw (propagated c.from_residual-in_err-then.ensures) (let g = rw c.in_err-then.was at c.add_found.ensures in rw g.1 (reports-refused c.in_err-then.field-0.0 g.0))
