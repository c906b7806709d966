-- `onward` meets its contract. Assumes nothing.
use borrow.Author.Tests.{eq-eqb, ne_eqb}
use Rattle.trie_index.proofs.onward.Goals as goal

pub returns-then-x-eq0 : goal.returns-then-x-eq0
returns-then-x-eq0 c = rw (eq-eqb _ 0 c.if-x-eq0.true)

pub returns-then-c-eq0 : goal.returns-then-c-eq0
returns-then-c-eq0 c = rw (ne_eqb _ 0 c.if-x-eq0.false, eq-eqb _ 0 c.if-c-eq0.true)

pub returns : goal.returns
returns c = rw (ne_eqb _ 0 c.if-x-eq0.false, ne_eqb _ 0 c.if-c-eq0.false)
