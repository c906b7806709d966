-- `standing::inside` meets its contract. The loop's invariant: the part of what `at` means, inside what is left of the bits, is the part that is asked for.
-- Assumes nothing.
use Prim.Native.Nat.{◌≤◌}
use Rattle.nets.specs.Networks.{bits_left}
use Rattle.trie_meets.proofs.Inside.{Way}
use Rattle.trie_meets.proofs.standing.inside.Given as goal

abbrev pub invariant-loop-at : goal.invariant-loop-at
invariant-loop-at l = (l.left.len ≤ 128) × Way l.w l.b l.i (bits_left l.initial.left) l.at (bits_left l.left)

abbrev pub decreases-loop-at : goal.decreases-loop-at
decreases-loop-at l = l.left.len
