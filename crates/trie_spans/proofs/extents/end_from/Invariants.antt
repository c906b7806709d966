-- `extents::end_from` meets its contract. The loop's invariant: the trie at node k ends where the whole does. Assumes nothing.
use Prim.Native.Nat.{ℕ, ◌+◌, ◌-◌}
use Rattle.nets.specs.Tries.{Trie, size}
use Rattle.trie_emit.specs.Combine.{Means}
use Rattle.trie_spans.proofs.Spans.{Last}
use Rattle.trie_spans.proofs.extents.end_from.Given as goal

abbrev pub invariant-loop-b : goal.invariant-loop-b
invariant-loop-b l = (o g : ℕ) (t : Trie) → Means l.w l.b o g l.i t → Last l.w l.b o g l.k (l.i + size t)

abbrev pub decreases-loop-b : goal.decreases-loop-b
decreases-loop-b l = 1073741824 - l.k
