-- `descend` meets its contract. The loop's invariant: the walks have gone on from where they began. Assumes nothing.
use Rattle.trie_lanes.specs.Lanes.{AllGo, Live}
use Rattle.trie_lanes.proofs.descend.Given as goal

abbrev pub invariant-loop : goal.invariant-loop
invariant-loop l = AllGo l.w l.b l.n l.e l.initial.lanes l.lanes × Live l.e l.k l.live
