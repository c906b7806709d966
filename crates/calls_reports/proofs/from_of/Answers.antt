-- `reports::from_of` meets its contract, by its test. Assumes nothing.
use borrow.Author.Tests.{eq-eqb, ne_eqb}
use Rattle.calls_reports.proofs.from_of.Goals as goal

pub returns-then-c-eq0 : goal.returns-then-c-eq0
returns-then-c-eq0 c = rw (eq-eqb _ _ c.if-c-eq0.true)

pub returns : goal.returns
returns c = rw (ne_eqb _ _ c.if-c-eq0.false)
