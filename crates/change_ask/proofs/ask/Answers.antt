-- `ask` meets its contract: the set has a seat, or what is refused is every call on it. Assumes nothing.
use borrow.Author.Rules.{rules}
use Rattle.pool_state.proofs.Seats.{seated-refused, seated-at}
use Rattle.change_ask.proofs.Asking.{ask-refused}
use Rattle.nets.proofs.Propagated.{propagated}
use Rattle.change_ask.proofs.ask.Goals as goal

pub ask_found-requires : goal.ask_found-requires
ask_found-requires c = (seated-at _ _ c.seat_of.ensures _ _ c.in_ok-found.was).surveyed

pub returns-in_err-found : goal.returns-in_err-found
returns-in_err-found c = rw (propagated c.from_residual.ensures) (ask-refused _ c.in_err-found.field-0.0 (seated-refused _ _ c.seat_of.ensures _ c.in_err-found.was))
