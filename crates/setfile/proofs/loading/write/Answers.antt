-- `loading::write` meets its contract: the sets behind move, and the list fills the gap. Assumes nothing.
use borrow.Author.Rules.{rules}
use Rattle.setfile.proofs.Filling.{write_moves, write-gap, write-wrote}
use Rattle.setfile.proofs.loading.write.Goals as goal

pub shift_behind-requires : goal.shift_behind-requires
shift_behind-requires c = let (l, g) = c.requires in write_moves g c.stride_of-s.ensures

pub fill-requires : goal.fill-requires
fill-requires c = let (l, g) = c.requires in
    (l, write-gap g c.stride_of-s.ensures c.shift_behind.ensures)

pub returns : goal.returns
returns c l g = let o = c.stride_of-s.ensures in
    let e = c.shift_behind.ensures in
    write-wrote g o e (c.fill.ensures l (write-gap g o e))
