-- `second_edit` meets its contract. Assumes nothing.
use native.Mathlib.Omega.{arith}
use borrow.Author.Rules.{rules}
use Rattle.pool_state.proofs.Seen.{figures}
use Rattle.change_edit.proofs.Edits.{right-refusal, change-asks, second-edited}
use Rattle.change_edit.proofs.second_edit.Goals as goal

pub seat_in-at-requires : goal.seat_in-at-requires
seat_in-at-requires c = let (e, (k, s, g)) = c.requires in (k, g.ready.surveyed)

pub cut-q-requires : goal.cut-q-requires
cut-q-requires c = let (e, (k, s, g)) = c.requires in right-refusal g.ready

pub bounds-pool-3 : goal.bounds-pool-3
bounds-pool-3 c = let (e, (k, s, g)) = c.requires in omega (arith, figures g.ready.surveyed)

pub change-requires : goal.change-requires
change-requires c = let (e, (k, s, g)) = c.requires in
    change-asks g e c.seat_in-at.ensures c.cut-q.ensures c.whole-root.ensures

pub returns : goal.returns
returns c k s g = second-edited g c.requires.0 c.seat_in-at.ensures c.cut-q.ensures c.whole-root.ensures c.change.ensures
