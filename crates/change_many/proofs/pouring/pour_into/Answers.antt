-- `pouring::pour_into` meets its contract. Assumes nothing.
use borrow.Author.Rules.{rules}
use Rattle.change_many.proofs.Poured.{clear_of}
use Rattle.change_many.proofs.pouring.pour_into.Goals as goal

pub is_admitted-clear-requires : goal.is_admitted-clear-requires
is_admitted-clear-requires c = let h = c.requires.2 in
    record { surveyed = h.surveyed; bytes_value = (h.list, h.reads) }

pub pour_found-requires : goal.pour_found-requires
pour_found-requires c = let h = c.requires.2 in (_, _, h, clear_of h c.is_admitted-clear.ensures)

pub returns : goal.returns
returns c a g h = c.pour_found.ensures a g h (clear_of h c.is_admitted-clear.ensures)
