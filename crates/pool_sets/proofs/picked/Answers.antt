-- `checking::picked` meets its contract, by its test. Assumes nothing.
use borrow.Author.Tests.{eq-eqb, ne_eqb}
use Rattle.pool_sets.proofs.picked.Goals as goal

pub returns-then-s-set : goal.returns-then-s-set
returns-then-s-set c = rw (eq-eqb _ _ c.if-s-set.true)

pub returns : goal.returns
returns c = rw (ne_eqb _ _ c.if-s-set.false)
