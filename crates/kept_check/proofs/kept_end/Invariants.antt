-- `kept_end` meets its contract. The loop's invariant: what the stack makes of the end of the part now read is the answer. Assumes nothing.
use Prim.Native.Nat.{suc, ◌-◌}
use Rattle.kept_check.proofs.Stack.{Loop}
use Rattle.kept_check.proofs.kept_end.Given as goal

abbrev pub invariant-loop-ats : goal.invariant-loop-ats
invariant-loop-ats l = Loop l.family l.w l.b l.n l.root l.ats l.sp l.i l.up l.bit

abbrev pub decreases-loop-ats : goal.decreases-loop-ats
decreases-loop-ats l = suc l.n - l.i
