-- `more` meets its contract. Assumes nothing.
use mathlib.Core.Path.{sym, ◌∙◌}
use Rattle.setfile_below.proofs.Streams.{more-turned, more-is}
use Rattle.setfile_below.proofs.more.Goals as goal

pub returns-then-turns : goal.returns-then-turns
returns-then-turns c q p l r ms u e o = more-turned u e (sym (c.turns.ensures q p l r ms u e) ∙ c.if-turns.true)

pub returns : goal.returns
returns c q p l r ms u e o = more-is u e (sym (c.turns.ensures q p l r ms u e) ∙ c.if-turns.false) _ o
