-- `walk_tested` meets its contract. The loop's invariant: the walk from here shows what the whole walk shows. Assumes nothing.
use Prim.Native.Nat.{◌+◌, ◌-◌}
use Rattle.nets.specs.Networks.{bits_left}
use Rattle.trie_lookup.specs.Walks.{walk}
use Rattle.trie_lookup.proofs.Turns.{Down}
use Rattle.trie_lookup.proofs.walk_tested.Given as goal

abbrev pub invariant-loop-left : goal.invariant-loop-left
invariant-loop-left l = Down l.w l.b l.n (walk l.w l.b l.n l.above (l.p + 1 - l.b) (bits_left l.initial.left)) l.i l.d l.left

abbrev pub decreases-loop-left : goal.decreases-loop-left
decreases-loop-left l = l.left.len
