-- `lanes::next_in_lane` meets its contract. The loop's invariant: none of the nodes that were read is a member of that length. Assumes nothing.
use Rattle.kept_next.proofs.Behind.{LaneRead}
use Rattle.kept_next.proofs.lanes.next_in_lane.Given as goal

abbrev pub invariant-loop-j : goal.invariant-loop-j
invariant-loop-j l = LaneRead l.family l.w l.b l.k l.len l.j
