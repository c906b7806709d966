-- `free` meets its contract: the survey of the first set has the nodes in use. Assumes nothing.
use mathlib.Core.Path.{sym, ◌∙◌}
use native.Mathlib.Omega.{arith}
use Rattle.pool_state.proofs.Seen.{surveyed-first, seen, figures}
use Rattle.pool.proofs.Reports.{free-granted, free-damaged}
use Rattle.pool.proofs.free.Goals as goal

pub returns-in_default : goal.returns-in_default
returns-in_default c = free-damaged _ _ (sym c.in_default.is ∙ c.survey-seen.ensures)

pub bounds-pool-3 : goal.bounds-pool-3
bounds-pool-3 c = omega (arith, figures (surveyed-first (sym c.in-Some.is ∙ c.survey-seen.ensures)))

pub overflow_sub-result : goal.overflow_sub-result
overflow_sub-result c = omega (arith, figures (surveyed-first (sym c.in-Some.is ∙ c.survey-seen.ensures)))

pub returns : goal.returns
returns c = free-granted (seen (surveyed-first (sym c.in-Some.is ∙ c.survey-seen.ensures))).1
