-- `laying::count_marks` meets its contract. The loop's invariant: what is left to count completes the count. Assumes nothing.
use Prim.Native.Nat.{◌-◌}
use Rattle.pool_state.proofs.Setups.{Marking}
use Rattle.pool.proofs.laying.count_marks.Given as goal

abbrev pub invariant-loop : goal.invariant-loop
invariant-loop l = Marking l.sets l.indexed (l.sets - l.counter) l.x l.n
