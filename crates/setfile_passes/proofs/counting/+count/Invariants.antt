-- `counting::count` meets its contract, by the depth that is left. Assumes nothing.
use Prim.Native.Nat.{◌-◌}
use Rattle.setfile_passes.proofs.counting.+count.Given as goal

abbrev pub decreases-count : goal.decreases-count
decreases-count l = 129 - l.s.depth
