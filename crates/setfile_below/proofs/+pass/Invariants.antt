-- `pass` meets its contract, by the depth that is left. Assumes nothing.
use Prim.Native.Nat.{◌-◌}
use Rattle.setfile_below.proofs.+pass.Given as goal

abbrev pub decreases-pass : goal.decreases-pass
decreases-pass l = 129 - l.s.depth
