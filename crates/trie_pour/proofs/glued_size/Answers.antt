-- `glued_size` meets its contract. Assumes nothing.
use Rattle.trie_pour.proofs.Parts.{over_none, over-some}
use Rattle.trie_pour.proofs.glued_size.Goals as goal

pub returns-then-n-eq0 : goal.returns-then-n-eq0
returns-then-n-eq0 c = over_none _ c.if-n-eq0.true

pub returns : goal.returns
returns c = over-some _ c.if-n-eq0.false
