-- `walk_from` meets its contract, by its tests. Assumes nothing.
use mathlib.Core.Path.{◌∙◌}
use native.Mathlib.Omega.{arith}
use Rattle.trie_lookup.proofs.Turns.{walk_from-none, walk_from-over, walk_from-node}
use Rattle.trie_lookup.proofs.walk_from.Goals as goal

pub returns-then-root-eq0 : goal.returns-then-root-eq0
returns-then-root-eq0 c = walk_from-none _ _ _ _ _ c.if-root-eq0.true

pub returns-then-n-root : goal.returns-then-n-root
returns-then-n-root c = walk_from-over _ _ _ _ _ c.if-n-root.true

pub returns : goal.returns
returns c = c.walk_down.ensures ∙ walk_from-node _ _ _ _ _ _ (omega arith) c.if-root-eq0.false c.if-n-root.false
