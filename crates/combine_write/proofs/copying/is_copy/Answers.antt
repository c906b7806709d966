-- `copying::is_copy` meets its contract, by its test. Assumes nothing.
use borrow.Author.Tests.{eq-eqb, ne_eqb}
use Rattle.combine_write.proofs.copying.is_copy.Goals as goal

pub returns-then-op-eq-EXCLUDE_APART : goal.returns-then-op-eq-EXCLUDE_APART
returns-then-op-eq-EXCLUDE_APART c = rw (eq-eqb _ 3 c.if-op-eq-EXCLUDE_APART.true)

pub returns : goal.returns
returns c = rw (ne_eqb _ 3 c.if-op-eq-EXCLUDE_APART.false)
