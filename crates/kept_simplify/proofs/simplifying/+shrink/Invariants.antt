-- `simplifying::shrink` meets its contract, by the nodes that it reads. Assumes nothing.
use Prim.Native.Nat.{◌-◌}
use Rattle.kept_simplify.proofs.simplifying.+shrink.Given as goal

abbrev pub decreases-shrink : goal.decreases-shrink
decreases-shrink l = l.e - l.i
