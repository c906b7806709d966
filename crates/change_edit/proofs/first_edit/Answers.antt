-- `first_edit` meets its contract, whichever way the network goes. Assumes nothing.
use borrow.Author.Rules.{rules}
use Rattle.change_edit.proofs.Edits.{insertable, removable, edited-in, edited-out}
use Rattle.change_edit.proofs.first_edit.Goals as goal

pub seat_in-at-requires : goal.seat_in-at-requires
seat_in-at-requires c = let (e, (k, n, g)) = c.requires in (k, g.ready.surveyed)

pub insert-requires : goal.insert-requires
insert-requires c = let (e, (k, n, g)) = c.requires in (g.ready.few, insertable g e c.seat_in-at.ensures c.if-into.true)

pub returns-then-into : goal.returns-then-into
returns-then-into c k n g = edited-in g c.requires.0 c.seat_in-at.ensures c.if-into.true c.insert.ensures

pub remove-requires : goal.remove-requires
remove-requires c = let (e, (k, n, g)) = c.requires in (g.ready.few, removable g e c.seat_in-at.ensures c.if-into.false)

pub returns : goal.returns
returns c k n g = edited-out g c.requires.0 c.seat_in-at.ensures c.if-into.false c.remove.ensures
