-- `relinking::own_root` meets its contract, by its test. Assumes nothing.
use borrow.Author.Tests.{eq-eqb, ne_eqb}
use Rattle.pool_change.proofs.relinking.own_root.Goals as goal

pub returns-then-new-eq0 : goal.returns-then-new-eq0
returns-then-new-eq0 c = rw (eq-eqb _ _ c.if-new-eq0.true)

pub returns : goal.returns
returns c = rw (ne_eqb _ _ c.if-new-eq0.false)
