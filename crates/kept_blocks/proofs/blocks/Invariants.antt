-- `blocks` meets its contract. The loop's invariant: what is still to be written completes it. Assumes nothing.
use mathlib.Core.Path.{◌≡◌}
use Prim.Native.Nat.{ℕ, ◌-◌}
use Rattle.nets.specs.Bits.{Bits}
use Rattle.nets.specs.Networks.{net_from}
use Rattle.kept_blocks.specs.Blocks.{Blocks}
use Rattle.kept_blocks.proofs.Remaining.{At}
use Rattle.kept_blocks.proofs.blocks.Given as goal

abbrev pub invariant-loop-x : goal.invariant-loop-x
invariant-loop-x l = (n : ℕ) (p r : Bits) → l.initial.x ≡ net_from l.family p → Blocks l.family l.initial.w l.b n l.i p r l.q → At l.family l.initial.w l.w l.b n l.i l.k p r l.q l.x

abbrev pub decreases-loop-x : goal.decreases-loop-x
decreases-loop-x l = l.q.len - l.x.len
