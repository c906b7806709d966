-- The proof of the cycle of calls {remove_size}. The measure is how many bits are left. Assumes nothing.
use Rattle.trie_remove.proofs.+remove_size.Given as goal

abbrev pub decreases-remove_size : goal.decreases-remove_size
decreases-remove_size l = l.s.len
