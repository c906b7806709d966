-- `change_size` meets its contract, by the bits that are left. Assumes nothing.
use Prim.Native.Nat.{◌-◌}
use Rattle.kept_change.proofs.+change_size.Given as goal

abbrev pub decreases-change_size : goal.decreases-change_size
decreases-change_size l = l.q.len - l.d
