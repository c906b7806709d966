-- `held` meets its contract: the survey has the nodes of the set, and its networks are counted there. Assumes nothing.
use Rattle.pool_state.proofs.Seats.{seated-refused, seated-at}
use Rattle.pool_state.proofs.Seen.{seen}
use Rattle.pool.proofs.Reports.{held-refused, held-numbers}
use Rattle.nets.proofs.Propagated.{propagated}
use Rattle.pool.proofs.held.Goals as goal

pub networks-n-requires : goal.networks-n-requires
networks-n-requires c = (seated-at _ _ c.seat_of.ensures _ _ c.in_ok-found.was).surveyed

pub returns-in_err-found : goal.returns-in_err-found
returns-in_err-found c = rw (propagated c.from_residual.ensures) (held-refused _ _ (seated-refused _ _ c.seat_of.ensures _ c.in_err-found.was))

pub returns : goal.returns
returns c = let (S, h) = seen (seated-at _ _ c.seat_of.ensures _ _ c.in_ok-found.was).surveyed in
    held-numbers h (c.networks-n.ensures S h.decoded)
