-- `asking::report` meets its contract, by its test. Assumes nothing.
use mathlib.Core.Path.{sym, ◌∙◌}
use borrow.Author.Rules.{rules}
use Rattle.lookup_many.proofs.asking.report.Goals as goal

pub returns-then-has_bit_past : goal.returns-then-has_bit_past
returns-then-has_bit_past c = rw (sym c.has_bit_past.ensures ∙ c.if-has_bit_past.true)

pub returns : goal.returns
returns c = rw (sym c.has_bit_past.ensures ∙ c.if-has_bit_past.false)
