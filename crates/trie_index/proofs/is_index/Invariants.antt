-- `is_index` meets its contract. The loop's invariant: the words that are left to compare decide. Assumes nothing.
use Rattle.trie_index.proofs.Words.{Left}
use Rattle.trie_index.proofs.is_index.Given as goal

abbrev pub invariant-loop-v : goal.invariant-loop-v
invariant-loop-v l = Left l.w l.b l.n l.root l.p l.v
