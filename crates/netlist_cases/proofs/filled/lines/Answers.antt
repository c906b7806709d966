-- `filled::lines` is safe and ends, and its buffer is whole. Each turn fills a byte. Assumes nothing.
use Prim.Native.Nat.{◌-◌, ◌≤◌, ◌<◌}
use mathlib.Core.Path.{◌≡◌}
use native.Mathlib.Omega.{arith}
use borrow.Author.Rules.{rules}
use lib.ListN.{length, length-set}
use Rattle.netlist_cases.proofs.filled.lines.Goals as goal

pub loop-i-preserved : goal.loop-i-preserved
loop-i-preserved c = simp length-set (omega arith)
