-- `writing::chain` meets its contract. The loop's invariant: what is still to be written completes it, and the bits still to come are at hand. Assumes nothing.
use mathlib.Core.Path.{◌≡◌}
use Prim.Native.Nat.{◌<◌}
use Rattle.setfile_build.specs.Building.{word_from}
use Rattle.setfile_build.proofs.Chaining.{Chaining}
use Rattle.setfile_build.proofs.writing.chain.Given as goal

abbrev pub invariant-loop-k : goal.invariant-loop-k
invariant-loop-k l = Chaining l.initial.w l.w l.b l.e l.n l.d l.initial.path l.path l.k l.i × (l.k < l.n.len → l.rest ≡ word_from l.n l.k)
