-- `following::later` meets its contract. The measure is the number of nodes. Assumes nothing.
use Prim.Native.Nat.{◌-◌}
use Rattle.trie_next.proofs.following.+later.Given as goal

abbrev pub decreases-later : goal.decreases-later
decreases-later l = l.e - l.i
