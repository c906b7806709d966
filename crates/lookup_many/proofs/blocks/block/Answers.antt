-- `blocks::block` meets its contract: the walks begin, go down and end. Assumes nothing.
use native.Mathlib.Omega.{arith}
use borrow.Author.Rules.{rules}
use Rattle.pool_state.proofs.Header.{is_header-header}
use Rattle.lookup_many.proofs.Ending.{seat-room, started-on, came}
use Rattle.lookup_many.proofs.blocks.block.Goals as goal

pub bounds-w-set : goal.bounds-w-set
bounds-w-set c = let h = c.requires.0 in omega (arith, h.known, is_header-header _ h.header)

pub overflow_add-p : goal.overflow_add-p
overflow_add-p c = let h = c.requires in omega (arith, h.0.within, (seat-room h.0).low, (seat-room h.0).few)

pub descend-requires : goal.descend-requires
descend-requires c = let h = c.requires in
    (seat-room h.0, started-on h.0 _ _ _ _ h.2 c.start.ensures.0, c.start.ensures.1)

pub end_all-requires : goal.end_all-requires
end_all-requires c = let h = c.requires in
    (h.0, h.1, came h.0 _ _ _ _ _ h.2 c.start.ensures.0 c.descend.ensures)

pub returns : goal.returns
returns c = c.end_all.ensures
