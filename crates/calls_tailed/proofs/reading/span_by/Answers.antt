-- `reading::span_by` meets its contract. Assumes nothing.
use borrow.Author.Rules.{rules}
use Rattle.calls_tailed.specs.Reading.{span_by}
use Rattle.calls_tailed.proofs.reading.span_by.Goals as goal

pub returns : goal.returns
unfolding span_by
returns c = rw (c.u64_at.ensures, c.u64_at-2.ensures) at c.span_of.ensures
