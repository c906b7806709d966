-- `ask` meets its contract, each return by the tests on the way to it. Assumes nothing.
use native.Mathlib.Omega.{arith}
use borrow.Author.Rules.{rules}
use Rattle.pool_state.specs.Steps.{Surveyed}
use Rattle.pool_state.proofs.Seats.{seated-refused, seated-at}
use Rattle.pool_state.proofs.Seen.{figures}
use Rattle.combine_sources.proofs.Asked.{ask-refused, ask-first, ask-second, ask-occupied, ask-empty}
use Rattle.nets.proofs.Propagated.{propagated}
use Rattle.combine_sources.proofs.ask.Goals as goal

pub bounds-pool-2 : goal.bounds-pool-2
bounds-pool-2 c = omega (arith, (figures ((seated-at _ _ c.seat_of.ensures _ _ c.in_ok-found.was).surveyed)).long)

pub returns-then-sets-first : goal.returns-then-sets-first
returns-then-sets-first c = ask-first _ _ ((seated-at _ _ c.seat_of.ensures _ _ c.in_ok-found.was).surveyed) c.if-sets-first.true

pub returns-then-sets-second : goal.returns-then-sets-second
returns-then-sets-second c = ask-second _ _ ((seated-at _ _ c.seat_of.ensures _ _ c.in_ok-found.was).surveyed) c.if-sets-first.false c.if-sets-second.true

pub returns-then-found-ne0 : goal.returns-then-found-ne0
returns-then-found-ne0 c = ask-occupied _ _ ((seated-at _ _ c.seat_of.ensures _ _ c.in_ok-found.was).surveyed) c.if-sets-first.false c.if-sets-second.false c.if-found-ne0.true

pub returns-in_err-found : goal.returns-in_err-found
returns-in_err-found c = rw (propagated c.from_residual.ensures) (ask-refused _ _ c.in_err-found.field-0.0 (seated-refused _ _ c.seat_of.ensures _ c.in_err-found.was))

pub returns : goal.returns
returns c = ask-empty _ _ ((seated-at _ _ c.seat_of.ensures _ _ c.in_ok-found.was).surveyed) c.if-sets-first.false c.if-sets-second.false c.if-found-ne0.false
