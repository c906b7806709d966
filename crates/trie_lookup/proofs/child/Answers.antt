-- `child` meets its contract. Assumes nothing.
use Rattle.trie_lookup.proofs.child.Goals as goal

pub returns-then-bit : goal.returns-then-bit
returns-then-bit c = rw c.if-bit.true

pub returns : goal.returns
returns c = rw c.if-bit.false
