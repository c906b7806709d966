-- The proof of the cycle of calls {insert}. The measure is what is left of the path. Assumes nothing.
use Rattle.trie_insert.proofs.+insert.Given as goal

abbrev pub decreases-insert : goal.decreases-insert
decreases-insert l = l.s.len
