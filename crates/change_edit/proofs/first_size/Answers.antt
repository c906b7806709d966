-- `first_size` meets its contract, whichever way the network goes. Assumes nothing.
use native.Mathlib.Omega.{arith}
use Rattle.change_edit.proofs.Edits.{first-asks, counts-in, counts-out, first_small}
use Rattle.change_edit.proofs.first_size.Goals as goal

pub seat_in-at-requires : goal.seat_in-at-requires
seat_in-at-requires c = let (e, (k, n, h)) = c.requires in (k, h.surveyed)

pub insert_size-requires : goal.insert_size-requires
insert_size-requires c = let (e, (k, n, h)) = c.requires in (h.few, first-asks h e c.seat_in-at.ensures)

pub overflow_cast-result : goal.overflow_cast-result
overflow_cast-result c = let (e, (k, n, h)) = c.requires in
    omega (arith, first_small h e c.seat_in-at.ensures (counts-in h e c.seat_in-at.ensures c.if-into.true c.insert_size.ensures))

pub returns-then-into : goal.returns-then-into
returns-then-into c k n h = counts-in h c.requires.0 c.seat_in-at.ensures c.if-into.true c.insert_size.ensures

pub remove_size-requires : goal.remove_size-requires
remove_size-requires c = let (e, (k, n, h)) = c.requires in let g = first-asks h e c.seat_in-at.ensures in (h.few, (g.t, g.rest, g.u, g.stands))

pub overflow_cast-result-2 : goal.overflow_cast-result-2
overflow_cast-result-2 c = let (e, (k, n, h)) = c.requires in
    omega (arith, first_small h e c.seat_in-at.ensures (counts-out h e c.seat_in-at.ensures c.if-into.false c.remove_size.ensures))

pub returns : goal.returns
returns c k n h = counts-out h c.requires.0 c.seat_in-at.ensures c.if-into.false c.remove_size.ensures
