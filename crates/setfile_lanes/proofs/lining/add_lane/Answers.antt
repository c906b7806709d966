-- `lining::add_lane` meets its contract. Assumes nothing.
use native.Mathlib.Omega.{arith}
use Rattle.setfile_lanes.specs.Lanes.{lanes_of}
use Rattle.setfile_lanes.proofs.Lines.{begun-few, lined-begun}
use Rattle.setfile_lanes.proofs.lining.add_lane.Goals as goal

pub put_lane-requires : goal.put_lane-requires
unfolding lanes_of
put_lane-requires c = begun-few c.requires.3

pub overflow_add-cursors : goal.overflow_add-cursors
unfolding lanes_of
overflow_add-cursors c = omega (arith, begun-few c.requires.3)

pub returns : goal.returns
unfolding lanes_of
returns c _ _ _ s = rw c.put_lane.ensures (lined-begun s)
