-- `following::first_at` meets its contract. The measure is the number of nodes. Assumes nothing.
use Prim.Native.Nat.{◌-◌}
use Rattle.trie_next.proofs.following.+first_at.Given as goal

abbrev pub decreases-first_at : goal.decreases-first_at
decreases-first_at l = l.e - l.i
