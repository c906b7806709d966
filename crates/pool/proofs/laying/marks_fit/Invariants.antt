-- `laying::marks_fit` meets its contract. The loop's invariant: what is left of the marks decides. Assumes nothing.
use Prim.Native.Nat.{ℕ, ◌-◌}
use Rattle.pool_state.proofs.Setups.{Marking}
use Rattle.pool.proofs.laying.marks_fit.Given as goal

abbrev pub invariant-loop : goal.invariant-loop
invariant-loop l = (n : ℕ) × Marking l.sets l.indexed (l.sets - l.counter) l.x n
