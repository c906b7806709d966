-- `grow` meets its contract, by the depth that is left. The loop's invariant: from what was written before it, it has gone on to what is written now. Assumes
-- nothing.
use mathlib.Core.List.{List}
use Prim.Native.Nat.{ℕ, ◌-◌}
use Rattle.nets.specs.Bits.{Bits}
use Rattle.nets.specs.Tries.{Trie}
use Rattle.kept_build.proofs.Growing.{Going}
use Rattle.kept_build.proofs.+grow.Given as goal

abbrev pub invariant-loop-h : goal.invariant-loop-h
invariant-loop-h l = (v : List ℕ) (q p : Bits) (t : Trie) (ms : List Bits) → Going l.family v l.initial.w l.b l.e l.initial.o l.d l.initial.h l.bytes l.initial.cursors q p t ms
    → Going l.family v l.w l.b l.e l.o l.d l.h l.bytes l.cursors q p t ms

abbrev pub decreases-loop-h : goal.decreases-loop-h
decreases-loop-h l = l.o

abbrev pub decreases-grow : goal.decreases-grow
decreases-grow l = 129 - l.d
