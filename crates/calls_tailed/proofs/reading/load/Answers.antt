-- `reading::load` meets its contract, arm by arm: what is lent is the tail. Assumes nothing.
use mathlib.Core.Bool.{true, false}
use borrow.Author.Tests.{ne_eqb}
use Rattle.calls_replies.proofs.Changing.{changed-is}
use Rattle.calls_tailed.specs.Reading.{span_by, load_of}
use Rattle.calls_tailed.proofs.Read.{loaded-is, poured-is}
use borrow.Author.Rules.{rules}
use Rattle.calls_tailed.proofs.reading.load.Goals as goal

pub returns-in-29 : goal.returns-in-29
unfolding load_of span_by
returns-in-29 c = rw c.in-29.is (changed-is (rw c.span_by.ensures at c.add_range.ensures) c.of_answer.ensures)

pub returns-in-30 : goal.returns-in-30
unfolding load_of span_by
returns-in-30 c = let a = c.args in
    rw c.in-30.is (poured-is a.pool.now a.s.now a.c c.of_answer-in-30.ensures true c.add_file.ensures)

pub returns-in-31 : goal.returns-in-31
unfolding load_of span_by
returns-in-31 c = let a = c.args in
    rw c.in-31.is (poured-is a.pool.now a.s.now a.c c.of_answer-in-31.ensures false c.remove_file.ensures)

pub returns-in_default : goal.returns-in_default
unfolding load_of span_by
returns-in_default c = let a = c.args in
    rw (ne_eqb _ _ c.in_default.in_default-own.rest.0.0.1, ne_eqb _ _ c.in_default.in_default-own.rest.0.1, ne_eqb _ _ c.in_default.in_default-own.rest.1) (loaded-is a.pool.now a.s.now a.c c.of_answer-in_default.ensures c.load.ensures)
