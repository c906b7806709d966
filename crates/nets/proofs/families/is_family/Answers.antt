-- `families::is_family` meets its contract, by its test. Assumes nothing.
use borrow.Author.Tests.{eq-eqb, ne_eqb}
use Rattle.nets.proofs.families.is_family.Goals as goal

pub returns-then-family : goal.returns-then-family
returns-then-family c = rw (eq-eqb _ 4 c.if-family.true)

pub returns-else-family : goal.returns-else-family
returns-else-family c = rw (ne_eqb _ 4 c.if-family.false)
