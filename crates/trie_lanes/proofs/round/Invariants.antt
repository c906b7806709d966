-- `round` meets its contract. The loop's invariant: the walks have gone on, and the row names walks. Assumes nothing.
use Prim.Native.Nat.{◌-◌}
use Rattle.trie_lanes.specs.Lanes.{AllGo, Live}
use Rattle.trie_lanes.proofs.round.Given as goal

abbrev pub invariant-loop-j : goal.invariant-loop-j
invariant-loop-j l = AllGo l.w l.b l.n l.e l.initial.lanes l.lanes × Live l.e l.k l.live

abbrev pub decreases-loop-j : goal.decreases-loop-j
decreases-loop-j l = l.k - l.j
