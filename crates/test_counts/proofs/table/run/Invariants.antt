-- `table::run` is safe and ends: before the first byte there was no case. Assumes nothing.
use Rattle.std.proofs.Common.{◌≡◌}
use Rattle.test_counts.proofs.table.run.Given as goal

abbrev pub invariant-loop-at : goal.invariant-loop-at
invariant-loop-at g l = goal.F-IsAlwaysCallable g l.case × (l.at ≡ 0 → (l.t.cases ≡ 0) × (l.t.wrong ≡ 0))
