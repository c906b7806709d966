-- `standing::overlaps` meets its contract: the network is overlapped where the part inside it is not nothing. Assumes nothing.
use Rattle.nets.specs.Networks.{bits_left}
use Rattle.kept_meets.proofs.Inside.{part-told}
use Rattle.kept_meets.proofs.standing.overlaps.Goals as goal

pub returns : goal.returns
returns c o g t m = part-told (bits_left c.args.s) t (c.inside.ensures o g t m)
