-- `parts::nodes_of` meets its contract. Assumes nothing.
use native.Mathlib.Omega.{arith}
use Rattle.kept_pour.proofs.Found.{part-size, whole-nodes}
use Rattle.kept_pour.proofs.parts.nodes_of.Goals as goal

pub returns-then-i-eq0 : goal.returns-then-i-eq0
returns-then-i-eq0 c f w b n p t k = whole-nodes t k c.if-i-eq0.true

pub overflow_sub-result : goal.overflow_sub-result
overflow_sub-result c = let (f, w, b, n, p, t, k) = c.requires in omega (arith, part-size t k c.if-i-eq0.false)

pub returns : goal.returns
returns c f w b n p t k = (part-size t k c.if-i-eq0.false).1
