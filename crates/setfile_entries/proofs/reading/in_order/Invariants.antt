-- `reading::in_order` meets its contract. The loop's invariant: the check of the entries that are left completes that of all. Assumes nothing.
use Rattle.setfile_entries.proofs.Ordered.{Going}
use Rattle.setfile_entries.proofs.reading.in_order.Given as goal

abbrev pub invariant-loop-i : goal.invariant-loop-i
invariant-loop-i l = Going l.bytes l.family l.n l.last l.i
