-- `cutting::mark` meets its contract, by the depth that is left. Assumes nothing.
use Prim.Native.Nat.{◌-◌}
use Rattle.kept_cut.proofs.cutting.+mark.Given as goal

abbrev pub decreases-mark : goal.decreases-mark
decreases-mark l = 129 - l.s.depth
