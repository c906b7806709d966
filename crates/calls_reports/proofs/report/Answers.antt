-- `reports::report` meets its contract, arm by arm. Assumes nothing.
use borrow.Author.Tests.{ne_eqb}
use Rattle.calls_reports.specs.Reports.{report_of}
use borrow.Author.Rules.{rules}
use Rattle.calls_reports.proofs.report.Goals as goal

pub returns-in-2 : goal.returns-in-2
unfolding report_of
returns-in-2 c = rw c.in-2.is (rw c.free.ensures at c.of_answer.ensures)

pub returns-in-3 : goal.returns-in-3
unfolding report_of
returns-in-3 c = rw c.in-3.is (rw c.held.ensures at c.of_report.ensures)

pub returns-in-4 : goal.returns-in-4
unfolding report_of
returns-in-4 c = rw c.in-4.is (rw c.plan.ensures at c.of_report-in-4.ensures)

pub returns-in-5 : goal.returns-in-5
unfolding report_of
returns-in-5 c = rw c.in-5.is (rw c.supernet.ensures at c.of_covering.ensures)

pub returns-in-6 : goal.returns-in-6
unfolding report_of
returns-in-6 c = rw c.in-6.is (rw c.contains.ensures at c.of_contained.ensures)

pub returns-in-7 : goal.returns-in-7
unfolding report_of
returns-in-7 c = rw c.in-7.is (rw c.is_empty.ensures at c.of_told.ensures)

pub returns-in-14 : goal.returns-in-14
unfolding report_of
returns-in-14 c = rw c.in-14.is (rw c.equal.ensures at c.of_told-in-14.ensures)

pub returns-in-22 : goal.returns-in-22
unfolding report_of
returns-in-22 c = rw c.in-22.is (rw c.nth.ensures at c.of_follower.ensures)

pub returns-in-23 : goal.returns-in-23
unfolding report_of
returns-in-23 c = rw c.in-23.is (rw c.last.ensures at c.of_follower-in-23.ensures)

pub returns-in-24 : goal.returns-in-24
unfolding report_of
returns-in-24 c = rw c.in-24.is c.entry.ensures

pub returns-in_default : goal.returns-in_default
unfolding report_of
returns-in_default c = let r = c.in_default.in_default-own.rest in
    rw (ne_eqb _ _ r.0.0.0.0.0.0.0.0.0.1, ne_eqb _ _ r.0.0.0.0.0.0.0.0.1, ne_eqb _ _ r.0.0.0.0.0.0.0.1, ne_eqb _ _ r.0.0.0.0.0.0.1, ne_eqb _ _ r.0.0.0.0.0.1, ne_eqb _ _ r.0.0.0.0.1, ne_eqb _ _ r.0.0.0.1, ne_eqb _ _ r.0.0.1, ne_eqb _ _ r.0.1, ne_eqb _ _ r.1)
    (rw (c.next.ensures, c.from_of.ensures) at c.of_follower-in_default.ensures)
