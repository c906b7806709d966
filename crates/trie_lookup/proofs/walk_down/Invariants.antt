-- `walk_down` meets its contract. The loop's invariant: the walk from here shows what the whole walk shows. Assumes nothing.
use Prim.Native.Nat.{◌-◌}
use Rattle.nets.specs.Networks.{bits_left}
use Rattle.trie_lookup.specs.Walks.{walk}
use Rattle.trie_lookup.proofs.Turns.{Placed}
use Rattle.trie_lookup.proofs.walk_down.Given as goal

abbrev pub invariant-loop-bit : goal.invariant-loop-bit
invariant-loop-bit l = Placed l.w l.b l.n (walk l.w l.b l.n (l.len - l.initial.left.len) l.root (bits_left l.initial.left)) l.len l.p l.left

abbrev pub decreases-loop-bit : goal.decreases-loop-bit
decreases-loop-bit l = l.left.len
