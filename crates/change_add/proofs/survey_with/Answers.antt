-- `survey_with` meets its contract: the sums stay below twice the pool's nodes. Assumes nothing.
use native.Mathlib.Omega.{arith}
use Rattle.pool_state.proofs.Seen.{figures}
use Rattle.change_add.proofs.survey_with.Goals as goal

pub claim_at-old-requires : goal.claim_at-old-requires
claim_at-old-requires c = omega (arith, figures c.requires.0)

pub claim_at-new-requires : goal.claim_at-new-requires
claim_at-new-requires c = omega (arith, figures c.requires.0)

pub overflow_sub-result : goal.overflow_sub-result
overflow_sub-result c = omega (arith, figures c.requires.0)

pub overflow_add-result : goal.overflow_add-result
overflow_add-result c = omega (arith, figures c.requires.0)

pub overflow_sub-result-2 : goal.overflow_sub-result-2
overflow_sub-result-2 c = omega (arith, figures c.requires.0, c.claim_at-new.ensures, c.claim_at-old.ensures)

pub overflow_add-result-2 : goal.overflow_add-result-2
overflow_add-result-2 c = omega (arith, figures c.requires.0, c.claim_at-new.ensures, c.claim_at-old.ensures)

pub returns : goal.returns
returns c = rw (c.claim_at-new.ensures, c.claim_at-old.ensures)
