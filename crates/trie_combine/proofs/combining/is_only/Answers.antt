-- `combining::is_only` meets its contract, by its tests. Assumes nothing.
use native.Mathlib.Omega.{arith}
use borrow.Author.Tests.{eqb-true, leb-true}
use Rattle.trie_combine.proofs.combining.is_only.Goals as goal

pub returns-else-p-le2 : goal.returns-else-p-le2
returns-else-p-le2 c e = absurd (omega (arith, c.if-p-le2.false, leb-true _ _ e))

pub returns-then-p-le2 : goal.returns-then-p-le2
returns-then-p-le2 c e = (omega (arith, c.if-p-le2.true), eqb-true _ _ e)
