-- `flat` meets its contract. Assumes nothing.
use native.Mathlib.Omega.{arith}
use Rattle.trie_pour.proofs.Parts.{flat-full, flat-none, flat-fits}
use Rattle.trie_pour.proofs.flat.Goals as goal

pub store-requires : goal.store-requires
store-requires c = let f = flat-fits (rw c.if-full.true at c.requires) in (f.0, (f.1, omega arith))

pub returns-then-full : goal.returns-then-full
returns-then-full c = rw c.if-full.true (flat-full c.store.ensures)

pub returns : goal.returns
returns c = rw c.if-full.false (flat-none _ _ _)
