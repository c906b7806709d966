-- `asking::number_of` meets its contract, by what is shown. Assumes nothing.
use borrow.Author.Rules.{rules}
use Rattle.lookup_many.proofs.Rows.{one-member, one-nothing, one-refused}
use Rattle.lookup_many.proofs.asking.number_of.Goals as goal

pub returns-in-Member : goal.returns-in-Member
returns-in-Member c = one-member _ _ _ _ c.report.ensures _ c.in-Member.is

pub returns-in-Nothing : goal.returns-in-Nothing
returns-in-Nothing c = one-nothing _ _ _ c.report-in-Nothing.ensures _ c.in-Nothing.is

pub returns-in-Refused : goal.returns-in-Refused
returns-in-Refused c = one-refused _ _ _ c.number.ensures _ c.in-Refused.is
