-- `runs::counted` meets its contract. Assumes nothing.
use borrow.Author.Tests.{eq-eqb, ne_eqb}
use native.Mathlib.Numerals.{add-one}
use Rattle.text_ipv6_write.proofs.runs.counted.Goals as goal

pub returns-then-g-eq0 : goal.returns-then-g-eq0
returns-then-g-eq0 c = rw (eq-eqb c.args.g 0 c.if-g-eq0.true, add-one c.args.n)

pub returns : goal.returns
returns c = rw (ne_eqb c.args.g 0 c.if-g-eq0.false)
