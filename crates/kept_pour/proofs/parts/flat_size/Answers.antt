-- `parts::flat_size` meets its contract. Assumes nothing.
use mathlib.Core.Path.{◌∙◌}
use Rattle.kept_pour.proofs.Sizes.{flat-byte}
use Rattle.kept_pour.proofs.parts.flat_size.Goals as goal

pub returns : goal.returns
returns c = c.from.ensures ∙ flat-byte c.args.full
