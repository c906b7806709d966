-- `loading::is_admitted` meets its contract: only of a public-only set something is asked. Assumes nothing.
use mathlib.Core.Path.{◌∙◌}
use Rattle.pool_state.proofs.Judged.{admits-any, admits-clear}
use Rattle.setfile.proofs.loading.is_admitted.Goals as goal

pub returns-then-not-is_public : goal.returns-then-not-is_public
returns-then-not-is_public c S l d o e = c.if-not-is_public.true-raw ∙ admits-any S _ (c.is_public.ensures S d) _ c.if-not-is_public.true-raw

pub returns-else-not-is_public : goal.returns-else-not-is_public
returns-else-not-is_public c S l d o e = admits-clear S _ (c.is_public.ensures S d) _ c.if-not-is_public.false-raw o (c.file_is_clear.ensures l e)
