-- `reports::entry` meets its contract. Assumes nothing.
use borrow.Author.Rules.{rules}
use Rattle.calls_reports.specs.Reports.{entry_of}
use Rattle.calls_reports.proofs.entry.Goals as goal

pub returns : goal.returns
unfolding entry_of
returns c = let p = c.page_of-page.ensures in
    rw (p.answer, p.row) at c.of_entry.ensures
