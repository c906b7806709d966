-- `removing::chain` meets its contract. The loop's invariant: what is still to be written completes the chain. Assumes nothing.
use Rattle.trie_remove.proofs.Splices.{Chain}
use Rattle.trie_remove.proofs.chain.Given as goal

abbrev pub invariant-loop-bit : goal.invariant-loop-bit
invariant-loop-bit l = Chain l.initial.w l.b l.i l.initial.left l.w l.k l.left

abbrev pub decreases-loop-bit : goal.decreases-loop-bit
decreases-loop-bit l = l.left.len
