-- `filling::fill` meets its contract, by the depth that is left. Assumes nothing.
use Prim.Native.Nat.{◌-◌}
use Rattle.setfile_passes.proofs.filling.+fill.Given as goal

abbrev pub decreases-fill : goal.decreases-fill
decreases-fill l = 129 - l.s.depth
