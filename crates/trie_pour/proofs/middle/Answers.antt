-- `middle` meets its contract. Assumes nothing.
use mathlib.Core.List.{[]}
use Rattle.trie_pour.proofs.Parts.{into-whole, into-none, into-leaf, into-inner}
use Rattle.trie_pour.proofs.middle.Goals as goal

pub returns-then-listed : goal.returns-then-listed
returns-then-listed c t g = rw c.if-listed.true (into-whole _ t)

pub returns-in-Nothing : goal.returns-in-Nothing
returns-in-Nothing c t g = rw c.if-listed.false (into-none _ t (rw c.in-Nothing.is at (c.look-v.ensures t [] _ g)))

pub returns-in-Leaf : goal.returns-in-Leaf
returns-in-Leaf c t g = rw c.if-listed.false (into-leaf _ t (rw c.in-Leaf.is at (c.look-v.ensures t [] _ g)))

pub returns-in-Inner : goal.returns-in-Inner
returns-in-Inner c t g = rw c.if-listed.false (into-inner _ t _ (rw c.in-Inner.is at (c.look-v.ensures t [] _ g)))
