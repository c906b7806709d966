-- `survey` meets its contract. The loop's invariant: h is head number k, and the nodes of the heads so far are counted. Assumes nothing.
use Prim.Native.Nat.{◌≤◌}
use Rattle.setfile_order.proofs.Counting.{Survey}
use Rattle.setfile_order.proofs.survey.Given as goal

abbrev pub invariant-loop-k : goal.invariant-loop-k
invariant-loop-k l = Survey l.bytes l.family l.n l.cursors l.h l.k l.nodes × (l.n ≤ 4194304)
