-- `follows` meets its contract, by its test. Assumes nothing.
use borrow.Author.Tests.{eq-eqb, ne_eqb}
use Rattle.kept_check.proofs.follows.Goals as goal

pub returns-then-d-ne0 : goal.returns-then-d-ne0
returns-then-d-ne0 c = rw (ne_eqb _ 0 c.if-d-ne0.true)

pub returns : goal.returns
returns c = rw (eq-eqb _ 0 c.if-d-ne0.false, c.distance.ensures.0)
