-- `insert_size` meets its contract. The loop's invariant: what is counted of the part completes the whole. Assumes nothing.
use Prim.Native.Nat.{◌≤◌}
use Rattle.nets.specs.Networks.{bits_left}
use Rattle.trie_insert.proofs.Counting.{Part}
use Rattle.trie_insert.proofs.insert_size.Given as goal

abbrev pub invariant-loop-bit : goal.invariant-loop-bit
invariant-loop-bit l = (l.p.len ≤ 128) × Part l.w l.b l.i l.e (bits_left l.initial.p) l.from l.to (bits_left l.p)

abbrev pub decreases-loop-bit : goal.decreases-loop-bit
decreases-loop-bit l = l.p.len
