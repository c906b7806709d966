-- `cutting::cut` meets its contract, by the depth that is left. Assumes nothing.
use Prim.Native.Nat.{◌-◌}
use Rattle.setfile_passes.proofs.cutting.+cut.Given as goal

abbrev pub decreases-cut : goal.decreases-cut
decreases-cut l = 129 - l.s.depth
