-- `standing::push` meets its contract. Assumes nothing.
use mathlib.Core.Path.{sym}
use native.Mathlib.Nat.{add-zero}
use Rattle.trie_lookup.proofs.standing.push.Goals as goal

pub returns-then-bit : goal.returns-then-bit
returns-then-bit c = rw c.if-bit.true

pub returns : goal.returns
returns c = rw c.if-bit.false (sym (add-zero _))
