-- `rows::write_ranges` meets its contract. The loop's invariant: what is still to come completes the ranges. Assumes nothing.
use Rattle.nets.specs.Tries.{Trie}
use Rattle.trie_paths.specs.Spans.{Holds}
use Rattle.trie_paths.proofs.Stacks.{Stack}
use Rattle.trie_ranges.proofs.Turns.{Ranging}
use Rattle.trie_ranges.proofs.rows.write_ranges.Given as goal

abbrev pub invariant-loop-k : goal.invariant-loop-k
invariant-loop-k l = (t : Trie) → Holds l.w l.b l.i l.e l.family t → (S : Stack) × Ranging l.w l.b l.e l.family t l.initial.rows l.x l.stack l.sp l.at l.rows l.k S
