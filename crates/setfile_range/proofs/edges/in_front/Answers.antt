-- `edges::in_front` meets its contract: one less, by the word that has to give. Assumes nothing.
use native.Mathlib.Omega.{arith}
use Rattle.setfile_range.proofs.Walking.{before-low, before-high, before-none}
use Rattle.setfile_range.proofs.edges.in_front.Goals as goal

pub returns-then-a-ne0 : goal.returns-then-a-ne0
returns-then-a-ne0 c = before-low _ _ (omega arith) c.if-a-ne0.true

pub returns-then-a-ne0-2 : goal.returns-then-a-ne0-2
returns-then-a-ne0-2 c = before-high _ _ c.if-a-ne0.false c.if-a-ne0-2.true

pub returns : goal.returns
returns c = before-none _ _ c.if-a-ne0.false c.if-a-ne0-2.false
