-- `gathering::gather` meets its contract. The loop's invariant: the entries held are what is left so far of the entries read. Assumes nothing.
use Rattle.salvage_lists.specs.Salvaging.{in_range_in}
use Rattle.salvage_batch.specs.Buffers.{place_of, Kept, Holds}
use Rattle.salvage_batch.proofs.gathering.gather.Given as goal

abbrev pub invariant-loop-i : goal.invariant-loop-i
invariant-loop-i l = Kept l.family l.most l.initial.buf l.buf × Holds l.family l.buf l.most (in_range_in l.family l.bytes 0 l.i) (place_of l.after) l.h
