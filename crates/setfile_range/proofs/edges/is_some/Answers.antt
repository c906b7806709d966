-- `edges::is_some` meets its contract, by its two words. Assumes nothing.
use Rattle.setfile_range.proofs.Walking.{some-high, some-low}
use Rattle.setfile_range.proofs.edges.is_some.Goals as goal

pub returns-then-a-ne0 : goal.returns-then-a-ne0
returns-then-a-ne0 c = some-high _ _ c.if-a-ne0.true

pub returns : goal.returns
returns c = some-low _ _ c.if-a-ne0.false
