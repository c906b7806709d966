-- `begin` meets its contract. Assumes nothing.
use borrow.Author.Tests.{eq-eqb, ne_eqb}
use Rattle.trie_index.proofs.begin.Goals as goal

pub returns-then-root-eq0 : goal.returns-then-root-eq0
returns-then-root-eq0 c = rw (eq-eqb _ 0 c.if-root-eq0.true)

pub returns : goal.returns
returns c = rw (ne_eqb _ 0 c.if-root-eq0.false)
