-- `is_admitted` meets its contract: only of a public-only destination something is asked. Assumes nothing.
use native.Mathlib.Omega.{arith}
use Rattle.pool_state.proofs.Decoded.{decode-header}
use Rattle.pool_state.proofs.Judged.{admits-any, admits-clear}
use Rattle.pool_state.proofs.Seen.{figures}
use Rattle.combine_first.proofs.is_admitted.Goals as goal

pub is_public-requires : goal.is_public-requires
is_public-requires c = c.requires.surveyed.0

pub returns-then-not-is_public : goal.returns-then-not-is_public
returns-then-not-is_public c S t u d r = admits-any S _ (c.is_public.ensures S d) _ c.if-not-is_public.true-raw

pub bounds-pool-1 : goal.bounds-pool-1
bounds-pool-1 c = omega (arith, figures c.requires.surveyed.0)

pub op_is_clear-requires : goal.op_is_clear-requires
op_is_clear-requires c = let (t, u, h) = c.requires.reads in
    record { family_bound = c.requires.surveyed.1; inputs = (t, u, h.inputs) }

pub returns : goal.returns
returns c S t u d r = admits-clear S _ (c.is_public.ensures S d) _ c.if-not-is_public.false-raw (decode-header _ S d).family (c.op_is_clear.ensures t u r.inputs)
