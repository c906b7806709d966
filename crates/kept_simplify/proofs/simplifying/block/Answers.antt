-- `simplifying::block` meets its contract. Assumes nothing.
use mathlib.Core.Path.{sym, ap, ◌∙◌}
use Rattle.nodes.specs.Words.{put}
use Rattle.nodes.proofs.Has.{has-seg, has_same}
use Rattle.kept_simplify.proofs.simplifying.block.Goals as goal

pub returns-else-i-o : goal.returns-else-i-o
returns-else-i-o c xs h e = rw (← c.if-i-o.false) (sym (has_same h))

pub returns-then-i-o : goal.returns-then-i-o
returns-then-i-o c xs h e = c.move_nodes.ensures ∙ ap (put _ _) (rw (← e) (has-seg h))
