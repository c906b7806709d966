-- `filled::lines` is safe and ends, and its buffer is whole. Each turn fills a byte. Assumes nothing.
use Prim.Native.Nat.{◌-◌, ◌≤◌, ◌<◌}
use mathlib.Core.Path.{◌≡◌}
use native.Mathlib.Omega.{arith}
use borrow.Author.Rules.{rules}
use lib.ListN.{length, length-set}
use Rattle.netlist_cases.proofs.filled.lines.Given as goal

abbrev pub invariant-loop-i : goal.invariant-loop-i
invariant-loop-i l = (l.i ≤ 4000) × (l.at < 16) × (length l.buf ≡ 4000)

abbrev pub decreases-loop-i : goal.decreases-loop-i
decreases-loop-i l = 4000 - l.i
