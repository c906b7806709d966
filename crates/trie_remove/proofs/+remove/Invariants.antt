-- The proof of the cycle of calls {remove}. The measure is how many bits are left. Assumes nothing.
use Rattle.trie_remove.proofs.+remove.Given as goal

abbrev pub decreases-remove : goal.decreases-remove
decreases-remove l = l.s.len
