-- The loop of `list`: `Stored.Storing` is all that is known of the row and of the spot.
use Rattle.netrows.proofs.Stored.{Storing}
use Rattle.netrows.proofs.list.Given as goal

abbrev pub invariant-loop-at : goal.invariant-loop-at
invariant-loop-at l = Storing l.pool l.set l.fn.nets l.n l.at l.spot l.nets
