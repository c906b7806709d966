-- `nearest_of_all` meets its contract. The loop's invariant: the nearest of the nodes that were read. Assumes nothing.
use Rattle.nets.specs.Tries.{Trie}
use Rattle.kept_list.specs.Listed.{KeptHolds}
use Rattle.kept_next.specs.Nearest.{place_at}
use Rattle.kept_next.proofs.Nearer.{Searches}
use Rattle.kept_next.proofs.nearest_of_all.Given as goal

abbrev pub invariant-loop-k : goal.invariant-loop-k
invariant-loop-k l = (t : Trie) → KeptHolds l.family l.w l.b l.n l.i l.e t → Searches l.family l.w l.b l.i l.e (place_at l.last) l.best l.k
