-- `begin` meets its contract. Assumes nothing.
use mathlib.Core.Path.{refl}
use Rattle.setfile_below.proofs.Streams.{begins}
use Rattle.setfile_below.proofs.begin.Goals as goal

pub returns : goal.returns
returns c = (refl, λ l h. begins _ _ l h _ (c.open-head.ensures l h))
