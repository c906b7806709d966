-- `marks::lift` meets its contract. Assumes nothing.
use Rattle.kept_cut.proofs.Closed.{clear_second, clear_first, set-whole, lifted}
use Rattle.kept_cut.proofs.marks.lift.Goals as goal

pub clear_mark-requires : goal.clear_mark-requires
clear_mark-requires c = let (v, e, p, t, g, ne) = c.requires in clear_second g ne

pub clear_mark-requires-2 : goal.clear_mark-requires-2
clear_mark-requires-2 c = let (v, e, p, t, g, ne) = c.requires in
    clear_first g ne c.clear_mark.ensures

pub set_mark-requires : goal.set_mark-requires
set_mark-requires c = let (v, e, p, t, g, ne) = c.requires in
    set-whole g ne c.clear_mark.ensures c.clear_mark-2.ensures

pub returns : goal.returns
returns c v e p t g ne = lifted g ne c.clear_mark.ensures c.clear_mark-2.ensures c.set_mark.ensures
