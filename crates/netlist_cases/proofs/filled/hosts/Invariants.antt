-- `filled::hosts` is safe and ends, and its rows are whole. Each turn fills one. Assumes nothing.
use Prim.Native.Nat.{◌-◌, ◌≤◌}
use mathlib.Core.Path.{◌≡◌}
use native.Mathlib.Omega.{arith}
use borrow.Author.Rules.{rules}
use lib.ListN.{length, length-set}
use Rattle.netlist_cases.proofs.filled.hosts.Given as goal

abbrev pub invariant-loop-i : goal.invariant-loop-i
invariant-loop-i l = (l.i ≤ 38) × (length l.rows ≡ 114)

abbrev pub decreases-loop-i : goal.decreases-loop-i
decreases-loop-i l = 38 - l.i
