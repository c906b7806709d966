-- `top_words` meets its contract. The loop's invariant: the words of the keys below 2 k are filled in. Assumes nothing.
use Prim.Native.Nat.{◌*◌}
use Rattle.trie_index.proofs.Words.{Filled}
use Rattle.trie_index.proofs.top_words.Given as goal

abbrev pub invariant-loop-k : goal.invariant-loop-k
invariant-loop-k l = Filled l.w l.b l.n l.root l.words (2 * l.k)
