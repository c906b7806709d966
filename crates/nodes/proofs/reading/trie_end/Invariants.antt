-- `reading::trie_end` meets its contract. The loop's invariant: what the stack makes of the end of the part now read is the answer. Assumes nothing.
use Prim.Native.Nat.{suc, ◌-◌}
use Rattle.nodes.proofs.Check.{Loop}
use Rattle.nodes.proofs.reading.trie_end.Given as goal

abbrev pub invariant-loop-at : goal.invariant-loop-at
invariant-loop-at l = Loop l.w l.b l.n l.fuel l.root l.stack l.sp l.i l.at

abbrev pub decreases-loop-at : goal.decreases-loop-at
decreases-loop-at l = suc l.n - l.i
