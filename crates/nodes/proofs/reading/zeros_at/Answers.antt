-- `reading::zeros_at` meets its contract, one word at a time. Assumes nothing.
use mathlib.Core.Path.{◌≡◌}
use mathlib.Core.List.{List}
use Prim.Native.Nat.{ℕ, ◌+◌, ◌-◌, ◌≤◌}
use native.Mathlib.Omega.{arith}
use lib.ListN.{length, take, drop, length-drop}
use lib.Seq.{length-take-le}
use Rattle.nodes.specs.Words.{zeros}
use Rattle.nodes.proofs.Zeros.{zeros-more}
use Rattle.nodes.proofs.reading.zeros_at.Goals as goal

few : (w : List ℕ) (p m : ℕ) → p + m ≤ length w → length (take (p + m - p) (drop p w)) ≡ m
few w p m h = omega (arith, length-take-le (p + m - p) (drop p w) (omega (arith, length-drop p w)))

pub loop-x-init : goal.loop-x-init
unfolding zeros
loop-x-init c = omega arith

pub overflow_add-count : goal.overflow_add-count
overflow_add-count c = omega (arith, (zeros-more _ c.loop-x.x-index c.from-count.result c.loop-x-test.true c.from-count.ensures).1, few c.args.w.now c.args.p c.args.m c.requires)

pub loop-x-preserved : goal.loop-x-preserved
loop-x-preserved c = omega (arith, (zeros-more _ c.loop-x.x-index c.from-count.result c.loop-x-test.true c.from-count.ensures).0)
