-- `is_admitted` meets its contract: only of a public-only set something is asked. Assumes nothing.
use native.Mathlib.Omega.{arith}
use Rattle.pool_state.proofs.Decoded.{decode-header}
use Rattle.pool_state.proofs.Seen.{figures}
use Rattle.pool_state.proofs.Judged.{admits-any, admits-clear}
use Rattle.change_add.proofs.is_admitted.Goals as goal

pub returns-then-not-is_public : goal.returns-then-not-is_public
returns-then-not-is_public c S d = admits-any S _ (c.is_public.ensures S d) _ c.if-not-is_public.true-raw

pub bounds-pool-1 : goal.bounds-pool-1
bounds-pool-1 c = omega (arith, figures c.requires.0)

pub returns : goal.returns
returns c S d = admits-clear S _ (c.is_public.ensures S d) _ c.if-not-is_public.false-raw (decode-header _ S d).family c.is_clear.ensures
