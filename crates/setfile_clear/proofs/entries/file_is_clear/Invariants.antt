-- `entries::file_is_clear` meets its contract. The loop's invariant: the entries that are left settle the answer. Assumes nothing.
use Rattle.setfile_clear.proofs.Clearing.{Going}
use Rattle.setfile_clear.proofs.entries.file_is_clear.Given as goal

abbrev pub invariant-loop-i : goal.invariant-loop-i
invariant-loop-i l = Going l.bytes l.family l.n l.i
