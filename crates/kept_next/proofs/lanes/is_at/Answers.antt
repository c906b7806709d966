-- `lanes::is_at` meets its contract, by its tests. Assumes nothing.
use mathlib.Core.Path.{sym, ◌∙◌}
use mathlib.Core.Bool.{false≢true}
use Rattle.kept_next.proofs.Behind.{equal-net}
use Rattle.kept_next.proofs.lanes.is_at.Goals as goal

pub returns-then-head-x : goal.returns-then-head-x
returns-then-head-x c z = absurd (false≢true z)

pub returns : goal.returns
returns c z = (sym c.head.ensures ∙ c.if-head-x.false, sym c.net_at.ensures.is ∙ equal-net _ _ (sym c.eq.ensures ∙ z))
