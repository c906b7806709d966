-- `tally` meets its contract. The loop's invariant: from what was passed before it, it has gone on to what is passed now. Assumes nothing.
use mathlib.Core.List.{List}
use Prim.Native.Nat.{◌-◌}
use Rattle.nets.specs.Bits.{Bits}
use Rattle.nets.specs.Tries.{Trie}
use Rattle.kept_build.proofs.Tallying.{Passing}
use Rattle.kept_build.proofs.tally.Given as goal

abbrev pub invariant-loop-h : goal.invariant-loop-h
invariant-loop-h l = (q p : Bits) (t : Trie) (ms : List Bits) → Passing l.family l.initial.nodes l.d l.initial.h l.bytes l.initial.cursors q p t ms → Passing l.family l.nodes l.d l.h l.bytes l.cursors q p t ms

abbrev pub decreases-loop-h : goal.decreases-loop-h
decreases-loop-h l = 4611686018427387904 - l.nodes
