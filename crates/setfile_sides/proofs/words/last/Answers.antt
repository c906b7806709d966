-- `words::last` meets its contract, word by word. Assumes nothing.
use Rattle.std.proofs.Common.{arith, rules}
use Rattle.setfile_sides.proofs.AddressWords.{last_of}
use Rattle.setfile_sides.proofs.words.last.Goals as goal

pub returns : goal.returns
returns c = last_of _ _ _ _ _ _ (omega arith) c.width.ensures c.less_by-k.ensures c.less_by.ensures c.fill.ensures
    c.fill-2.ensures
