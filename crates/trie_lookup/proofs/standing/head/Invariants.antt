-- `standing::head` meets its contract. The loop's invariant: what is taken is the beginning of the query, what is left is its rest. Assumes nothing.
use Rattle.nets.specs.Networks.{bits_left}
use Rattle.trie_lookup.proofs.Openings.{Taken}
use Rattle.trie_lookup.proofs.standing.head.Given as goal

abbrev pub invariant-loop-k : goal.invariant-loop-k
invariant-loop-k l = Taken (bits_left l.initial.left) l.initial.left.len l._k l.byte l.left
