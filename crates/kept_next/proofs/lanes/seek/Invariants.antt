-- `lanes::seek` meets its contract: the number read grows. Assumes nothing.
use Prim.Native.Nat.{◌-◌, ◌≤◌}
use Rattle.kept_next.proofs.lanes.seek.Given as goal

abbrev pub invariant-loop-k : goal.invariant-loop-k
invariant-loop-k l = l.i ≤ l.k

abbrev pub decreases-loop-k : goal.decreases-loop-k
decreases-loop-k l = l.e - l.k
