-- `relinking::moved_root` meets its contract, by its test. Assumes nothing.
use native.Mathlib.Omega.{arith}
use borrow.Author.Tests.{eq-eqb, ne_eqb}
use Rattle.pool_change.proofs.relinking.moved_root.Goals as goal

pub returns-then-r-eq0 : goal.returns-then-r-eq0
returns-then-r-eq0 c = rw (eq-eqb _ _ c.if-r-eq0.true)

pub overflow_add-result : goal.overflow_add-result
overflow_add-result c = omega (arith, c.requires c.if-r-eq0.false)

pub overflow_sub-result : goal.overflow_sub-result
overflow_sub-result c = omega (arith, c.requires c.if-r-eq0.false)

pub returns : goal.returns
returns c = rw (ne_eqb _ _ c.if-r-eq0.false)
