-- `seats::seat_of` meets its contract, each return by the tests on the way to it. Assumes nothing.
use mathlib.Core.Path.{sym, ◌∙◌}
use native.Mathlib.Omega.{arith}
use borrow.Author.Rules.{rules}
use Rattle.pool_state.proofs.Seats.{seat-refused, seat-at}
use Rattle.pool_state.proofs.Seen.{survey-long, surveyed-at, refuses-damaged, refuses-noset}
use Rattle.pool_check.proofs.seats.seat_of.Goals as goal

pub returns-in_default : goal.returns-in_default
returns-in_default c = seat-refused _ _ (refuses-damaged _ _ (sym c.in_default.is ∙ c.survey-seen.ensures))

pub bounds-pool-2 : goal.bounds-pool-2
bounds-pool-2 c = omega (arith, survey-long _ _ _ (sym c.in-Some.is ∙ c.survey-seen.ensures))

pub returns-then-pool-set : goal.returns-then-pool-set
returns-then-pool-set c = seat-refused _ _ (refuses-noset _ _ _ (sym c.in-Some.is ∙ c.survey-seen.ensures) c.if-pool-set.true)

pub seat_in-requires : goal.seat_in-requires
seat_in-requires c = (_, surveyed-at _ _ _ (sym c.in-Some.is ∙ c.survey-seen.ensures) c.if-pool-set.false)

pub returns : goal.returns
returns c = rw c.seat_in.ensures (seat-at (surveyed-at _ _ _ (sym c.in-Some.is ∙ c.survey-seen.ensures) c.if-pool-set.false))
