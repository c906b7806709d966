-- `families::width` meets its contract, by its test. Assumes nothing.
use mathlib.Core.Path.{sym}
use Rattle.nets.proofs.Numbers.{width-4, width-6}
use Rattle.nets.proofs.families.width.Goals as goal

pub returns-then-family-eq-IPV4 : goal.returns-then-family-eq-IPV4
returns-then-family-eq-IPV4 c = sym (width-4 _ c.if-family-eq-IPV4.true)

pub returns-else-family-eq-IPV4 : goal.returns-else-family-eq-IPV4
returns-else-family-eq-IPV4 c = sym (width-6 _ c.if-family-eq-IPV4.false)
