-- `copying::copy` meets its contract: it moves the words, if there are any. Assumes nothing.
use mathlib.Core.Path.{sym}
use borrow.Author.Rules.{rules}
use Rattle.nodes.proofs.Put.{put-nil}
use Rattle.combine_write.proofs.copying.copy.Goals as goal

pub returns-then-i-eq0 : goal.returns-then-i-eq0
returns-then-i-eq0 c = rw (c.requires.0 c.if-i-eq0.true) (sym (put-nil _ _))
