-- `lining::line_up` meets its contract. The loop's invariant: the first i entries are lined up. Assumes nothing.
use Prim.Native.Nat.{◌-◌, ◌≤◌}
use Rattle.setfile_lanes.specs.Lanes.{Lined}
use Rattle.setfile_lanes.proofs.lining.line_up.Given as goal

abbrev pub invariant-loop-i : goal.invariant-loop-i
invariant-loop-i l = Lined l.bytes l.family l.n l.cursors l.i × (l.i ≤ l.n)

abbrev pub decreases-loop-i : goal.decreases-loop-i
decreases-loop-i l = l.n - l.i
