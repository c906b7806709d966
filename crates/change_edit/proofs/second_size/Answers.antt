-- `second_size` meets its contract. Assumes nothing.
use native.Mathlib.Omega.{arith}
use Rattle.pool_state.proofs.Seen.{figures}
use Rattle.change_edit.proofs.Edits.{right-refusal, second-asks, second-counts, second-small}
use Rattle.change_edit.proofs.second_size.Goals as goal

pub seat_in-at-requires : goal.seat_in-at-requires
seat_in-at-requires c = let (e, (k, s, h)) = c.requires in (k, h.surveyed)

pub cut-q-requires : goal.cut-q-requires
cut-q-requires c = let (e, (k, s, h)) = c.requires in right-refusal h

pub bounds-pool-3 : goal.bounds-pool-3
bounds-pool-3 c = let (e, (k, s, h)) = c.requires in omega (arith, figures h.surveyed)

pub change_size-requires : goal.change_size-requires
change_size-requires c = let (e, (k, s, h)) = c.requires in second-asks h e c.seat_in-at.ensures c.cut-q.ensures

pub overflow_cast-result : goal.overflow_cast-result
overflow_cast-result c = let (e, (k, s, h)) = c.requires in omega (arith, second-small h e c.seat_in-at.ensures c.cut-q.ensures c.args.into c.change_size.ensures)

pub returns : goal.returns
returns c k s h = second-counts h c.requires.0 c.seat_in-at.ensures c.cut-q.ensures _ c.change_size.ensures
