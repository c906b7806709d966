-- `branches::leading` meets its contract. Assumes nothing.
use mathlib.Core.Path.{◌∙◌}
use Rattle.kept_build.proofs.Leading.{begins-or}
use Rattle.kept_build.proofs.branches.leading.Goals as goal

pub returns : goal.returns
returns c f s g e = c.unwrap_or.ensures ∙ begins-or g e c.with_new_prefix.result c.with_new_prefix.ensures
