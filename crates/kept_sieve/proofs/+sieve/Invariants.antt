-- `sieve` meets its contract, by the nodes that are left. Assumes nothing.
use Prim.Native.Nat.{◌-◌}
use Rattle.kept_sieve.proofs.+sieve.Given as goal

abbrev pub decreases-sieve : goal.decreases-sieve
decreases-sieve l = l.e - l.i
