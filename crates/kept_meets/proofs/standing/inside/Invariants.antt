-- `standing::inside` meets its contract. The loop's invariant: the part of what `at` means, inside what is left of the bits, is the part that is asked for.
-- Assumes nothing.
use Prim.Native.Nat.{◌-◌, ◌≤◌}
use Rattle.nets.specs.Networks.{bits_left}
use Rattle.kept_meets.proofs.Inside.{Way}
use Rattle.kept_meets.proofs.standing.inside.Given as goal

abbrev pub invariant-loop-at : goal.invariant-loop-at
invariant-loop-at l = (l.left.len ≤ l.s.len) × Way l.family l.w l.b l.n l.i (bits_left l.s) l.at (l.s.len - l.left.len) (bits_left l.left)

abbrev pub decreases-loop-at : goal.decreases-loop-at
decreases-loop-at l = l.left.len
