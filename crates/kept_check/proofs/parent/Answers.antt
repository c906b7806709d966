-- `parent` meets its contract, by its test. Assumes nothing.
use borrow.Author.Tests.{eq-eqb, ne_eqb}
use Rattle.kept_check.proofs.parent.Goals as goal

pub returns-then-d-eq0 : goal.returns-then-d-eq0
returns-then-d-eq0 c = rw (eq-eqb _ 0 c.if-d-eq0.true)

pub returns : goal.returns
returns c = rw (ne_eqb _ 0 c.if-d-eq0.false)
