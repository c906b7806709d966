-- `steps::look` meets its contract, by its tests. Assumes nothing.
use mathlib.Core.Path.{◌∙◌}
use Rattle.nodes.proofs.Views.{look_none, look-place, look-leaf, look-inner}
use Rattle.nodes.proofs.steps.look.Goals as goal

pub returns-then-i-e : goal.returns-then-i-e
returns-then-i-e c t rest u g = look_none t g c.if-i-e.true

pub word-x-requires : goal.word-x-requires
word-x-requires c = look-place _ c.requires.3 c.if-i-e.false

pub returns-then-x-eq0 : goal.returns-then-x-eq0
returns-then-x-eq0 c t rest u g = look-leaf t g c.if-i-e.false (rw c.word-x.ensures.0 at c.if-x-eq0.true)

pub returns : goal.returns
returns c t rest u g = rw (c.middle.ensures, c.word-x.ensures.0) (look-inner t g c.if-i-e.false (λ q. c.if-x-eq0.false (c.word-x.ensures.0 ∙ q)))
