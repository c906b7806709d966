-- `edit` meets its contract, by the form. Assumes nothing.
use native.Mathlib.Omega.{arith}
use borrow.Author.Rules.{rules}
use Rattle.pool_state.proofs.Seen.{figures}
use Rattle.change_edit.proofs.edit.Goals as goal

pub bounds-pool-5 : goal.bounds-pool-5
bounds-pool-5 c = let (k, g) = c.requires in omega (arith, figures g.ready.surveyed)

pub first_edit-requires : goal.first_edit-requires
first_edit-requires c = let (k, g) = c.requires in (c.if-pool-eq0.true, (k, _, g))

pub returns-then-pool-eq0 : goal.returns-then-pool-eq0
returns-then-pool-eq0 c k g = c.first_edit.ensures k _ g

pub second_edit-requires : goal.second_edit-requires
second_edit-requires c = let (k, g) = c.requires in (c.if-pool-eq0.false, (k, _, g))

pub returns : goal.returns
returns c k g = c.second_edit.ensures k _ g
