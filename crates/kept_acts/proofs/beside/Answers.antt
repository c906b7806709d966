-- `beside` meets its contract, by the side. Assumes nothing.
use mathlib.Core.Path.{refl}
use Rattle.kept_acts.proofs.beside.Goals as goal

pub returns-then-bit : goal.returns-then-bit
returns-then-bit c = rw c.if-bit.true (refl, refl, refl)

pub returns : goal.returns
returns c = rw c.if-bit.false (refl, refl, refl)
