-- `is_whole` meets its contract. Assumes nothing.
use Rattle.setfile_below.proofs.Streams.{whole_is}
use Rattle.setfile_below.proofs.is_whole.Goals as goal

pub returns : goal.returns
returns c q p t ms u h = whole_is t u h
