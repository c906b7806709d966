-- `tailed::rows_by` meets its contract, by its test. Assumes nothing.
use borrow.Author.Rules.{rules}
use Rattle.calls_tailed.proofs.Lent.{by-ranges, by-list}
use Rattle.calls_tailed.proofs.tailed.rows_by.Goals as goal

pub returns-then-c-eq-RANGES : goal.returns-then-c-eq-RANGES
returns-then-c-eq-RANGES c = by-ranges c.if-c-eq-RANGES.true c.ranges-then-c-eq-RANGES.ensures

pub returns : goal.returns
returns c = by-list c.if-c-eq-RANGES.false c.list.ensures
