-- `change` meets its contract, by the bits that are left. Assumes nothing.
use Prim.Native.Nat.{◌-◌}
use Rattle.kept_change.proofs.+change.Given as goal

abbrev pub decreases-change : goal.decreases-change
decreases-change l = l.q.len - l.path.len
