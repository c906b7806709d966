-- `squeezing::thin` meets its contract. The loop's invariant: what is kept, and what will be kept of the rest, are what thinning keeps of all. Assumes nothing.
use Rattle.salvage_batch.specs.Buffers.{Thinning}
use Rattle.salvage_batch.proofs.squeezing.thin.Given as goal

abbrev pub invariant-loop-i : goal.invariant-loop-i
invariant-loop-i l = Thinning l.family l.n l.initial.buf l.i l.buf l.t
