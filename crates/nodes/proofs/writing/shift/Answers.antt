-- `writing::shift` meets its contract: the library's move is one write. Assumes nothing.
use mathlib.Core.Path.{◌∙◌}
use Rattle.nodes.proofs.Move.{copy_put}
use Rattle.nodes.proofs.writing.shift.Goals as goal

pub returns : goal.returns
returns c = let a = c.args in c.copy_within.ensures.after ∙ copy_put a.w.now a.from a.to a.count c.requires.0 c.requires.1
