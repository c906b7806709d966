-- `lining::run_end` meets its contract. The loop's invariant: entry low has the length, and entry high, where there is one, has another. Assumes nothing.
use Prim.Native.Nat.{◌-◌}
use Rattle.setfile_lanes.proofs.Halving.{Between}
use Rattle.setfile_lanes.proofs.lining.run_end.Given as goal

abbrev pub invariant-loop-low : goal.invariant-loop-low
invariant-loop-low l = Between l.bytes l.family l.n l.i l.low l.high

abbrev pub decreases-loop-low : goal.decreases-loop-low
decreases-loop-low l = l.high - l.low
