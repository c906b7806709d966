-- `write_index` meets its contract. The loop's invariant: what is left to write completes the index. Assumes nothing.
use Rattle.trie_index.proofs.Words.{Writing}
use Rattle.trie_index.proofs.write_index.Given as goal

abbrev pub invariant-loop-v : goal.invariant-loop-v
invariant-loop-v l = Writing l.initial.w l.b l.n l.root l.p l.w l.v
