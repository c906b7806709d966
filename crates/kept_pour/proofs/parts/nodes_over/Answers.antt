-- `parts::nodes_over` meets its contract. Assumes nothing.
use native.Mathlib.Omega.{arith}
use Rattle.kept_pour.proofs.Sizes.{glue-first, glue-second, glue-both}
use Rattle.kept_pour.proofs.parts.nodes_over.Goals as goal

pub returns-then-x-eq0 : goal.returns-then-x-eq0
returns-then-x-eq0 c l r x y = omega (arith, x, y, glue-second l r (omega (arith, x, c.if-x-eq0.true)))

pub returns-then-y-eq0 : goal.returns-then-y-eq0
returns-then-y-eq0 c l r x y = omega (arith, x, y, glue-first l r (omega (arith, y, c.if-y-eq0.true)))

pub returns : goal.returns
returns c l r x y = omega (arith, x, y, glue-both l r (omega (arith, x, c.if-x-eq0.false)) (omega (arith, y, c.if-y-eq0.false)))
