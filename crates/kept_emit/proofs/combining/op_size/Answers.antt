-- `combining::op_size` meets its contract. Assumes nothing.
use mathlib.Core.List.{[]}
use mathlib.Core.Path.{refl, ◌∙◌}
use Rattle.kept_emit.proofs.Answered.{size_is}
use Rattle.kept_emit.proofs.combining.op_size.Goals as goal

pub returns : goal.returns
returns c o e t u s = c.size_of.ensures ∙ size_is _ _ (c.foresee-x.ensures o e [] t u refl s)
