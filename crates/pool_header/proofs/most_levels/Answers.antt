-- `checking::most_levels` meets its contract, by the width of each family. Assumes nothing.
use borrow.Author.Tests.{eq-eqb, ne_eqb}
use Rattle.nets.specs.Networks.{width}
use Rattle.pool_header.proofs.most_levels.Goals as goal

pub returns-then-family-eq4 : goal.returns-then-family-eq4
unfolding width
returns-then-family-eq4 c = rw (eq-eqb _ 4 c.if-family-eq4.true)

pub returns : goal.returns
unfolding width
returns c = rw (ne_eqb _ 4 c.if-family-eq4.false)
