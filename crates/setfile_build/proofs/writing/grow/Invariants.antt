-- `writing::grow` meets its contract. The loop's invariant: from what was written before it, it has gone on to what is written now. Assumes nothing.
use mathlib.Core.List.{List}
use mathlib.Core.Path.{refl}
use Prim.Native.Nat.{ℕ, ◌-◌}
use native.Mathlib.Omega.{arith}
use borrow.Author.Rules.{rules}
use Rattle.nets.specs.Tries.{Trie}
use Rattle.setfile_build.specs.Building.{Due}
use Rattle.setfile_build.proofs.Building.{Going, first, first-chains, first-few, first-going, going_end, going-long, going, going_step, going-appends, going-again}
use Rattle.setfile_build.proofs.writing.grow.Given as goal

abbrev pub invariant-loop-h : goal.invariant-loop-h
invariant-loop-h l = (v : List ℕ) (t : Trie) → Going v l.initial.w l.b l.o l.initial.e l.initial.path l.initial.h l.bytes l.family l.initial.cursors t → Going v l.w l.b l.o l.e l.path l.h l.bytes l.family l.cursors t

abbrev pub decreases-loop-h : goal.decreases-loop-h
decreases-loop-h l = 1073741824 - l.e
