-- `pieces::group` meets its contract. The loop's invariant: what is still to be read completes the group. Assumes nothing.
use Prim.Native.Nat.{◌-◌}
use lib.ListN.{length}
use Rattle.text_ipv6_runs.proofs.Loop.{Reading}
use Rattle.text_ipv6_runs.proofs.pieces.group.Given as goal

abbrev pub invariant-loop-start : goal.invariant-loop-start
invariant-loop-start l = Reading l.s l.start l.at l.value

abbrev pub decreases-loop-start : goal.decreases-loop-start
decreases-loop-start l = length l.s - l.at
