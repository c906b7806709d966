-- `removing::halve` meets its contract: one law for each side of the bit. Assumes nothing.
use native.Mathlib.Omega.{arith}
use Rattle.trie_remove.proofs.Splices.{halve-second, halve-first}
use Rattle.trie_remove.proofs.halve.Goals as goal

pub returns-then-bit : goal.returns-then-bit
returns-then-bit c = ((omega arith, omega arith), λ x m. rw c.if-bit.true (halve-second _ _ _ _ _ _ c.requires.0.0 c.store.ensures c.links.ensures x m))

pub returns : goal.returns
returns c = ((omega arith, omega arith), λ x m. rw c.if-bit.false (halve-first _ _ _ _ _ _ c.requires.0.0 c.store-2.ensures c.links-2.ensures x m))
