-- `asking::is_span` meets its contract. Assumes nothing.
use borrow.Author.Tests.{not-true, not-false}
use borrow.Author.Rules.{rules}
use Rattle.change_many.proofs.Asked.{span-not, span-is}
use Rattle.change_many.proofs.asking.is_span.Goals as goal

pub returns-then-not-in_width : goal.returns-then-not-in_width
returns-then-not-in_width c = span-not _ c.in_width.ensures (not-true _ c.if-not-in_width.true-raw)

pub returns : goal.returns
returns c = span-is _ c.in_width.ensures (not-false _ c.if-not-in_width.false-raw) c.in_width-2.ensures
