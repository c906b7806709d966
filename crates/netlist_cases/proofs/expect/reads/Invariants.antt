-- `expect::reads` is safe and ends. Each turn reads in pieces of one byte more. Assumes nothing.
use Prim.Native.Nat.{◌-◌, ◌≤◌}
use borrow.Author.Rules.{rules}
use Rattle.netlist_cases.proofs.expect.reads.Given as goal

abbrev pub invariant-loop-size : goal.invariant-loop-size
invariant-loop-size l = (1 ≤ l.size) × (l.size ≤ 24)

abbrev pub decreases-loop-size : goal.decreases-loop-size
decreases-loop-size l = 24 - l.size
