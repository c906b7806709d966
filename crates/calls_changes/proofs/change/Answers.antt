-- `changes::change` meets its contract, arm by arm. Assumes nothing.
use borrow.Author.Tests.{ne_eqb}
use Rattle.calls_changes.specs.Changes.{change_of}
use Rattle.calls_replies.proofs.Changing.{changed-is, reporting-is}
use borrow.Author.Rules.{rules}
use Rattle.calls_changes.proofs.change.Goals as goal

pub returns-in-8 : goal.returns-in-8
unfolding change_of
returns-in-8 c = rw c.in-8.is (reporting-is c.add.ensures c.of_noted.ensures)

pub returns-in-9 : goal.returns-in-9
unfolding change_of
returns-in-9 c = rw c.in-9.is (reporting-is c.remove.ensures c.of_noted-in-9.ensures)

pub returns-in-10 : goal.returns-in-10
unfolding change_of
returns-in-10 c = rw c.in-10.is (changed-is c.simplify.ensures c.of_answer.ensures)

pub returns-in-11 : goal.returns-in-11
unfolding change_of
returns-in-11 c = rw c.in-11.is (changed-is c.merge.ensures c.of_answer-in-11.ensures)

pub returns-in-12 : goal.returns-in-12
unfolding change_of
returns-in-12 c = rw c.in-12.is (changed-is c.intersect.ensures c.of_answer-in-12.ensures)

pub returns-in-13 : goal.returns-in-13
unfolding change_of
returns-in-13 c = rw c.in-13.is (changed-is c.exclude_apart.ensures c.of_answer-in-13.ensures)

pub returns-in-25 : goal.returns-in-25
unfolding change_of
returns-in-25 c = rw c.in-25.is (changed-is c.exclude.ensures c.of_answer-in-25.ensures)

pub returns-in-26 : goal.returns-in-26
unfolding change_of
returns-in-26 c = rw c.in-26.is (changed-is c.replan.ensures c.of_answer-in-26.ensures)

pub returns-in_default : goal.returns-in_default
unfolding change_of
returns-in_default c = let r = c.in_default.in_default-own.rest in
    rw (
      ne_eqb _ _ r.0.0.0.0.0.0.0.1,
      ne_eqb _ _ r.0.0.0.0.0.0.1,
      ne_eqb _ _ r.0.0.0.0.0.1,
      ne_eqb _ _ r.0.0.0.0.1,
      ne_eqb _ _ r.0.0.0.1,
      ne_eqb _ _ r.0.0.1,
      ne_eqb _ _ r.0.1,
      ne_eqb _ _ r.1,
    )
    (changed-is c.make_public.ensures c.of_answer-in_default.ensures)
