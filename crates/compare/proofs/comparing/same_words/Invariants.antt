-- `comparing::same_words` meets its contract. The loop's invariant: the words before the k-th agree. Assumes nothing.
use mathlib.Core.Bool.{true}
use Prim.Native.Nat.{◌-◌, ◌≤◌}
use native.Mathlib.Omega.{arith}
use lib.Dec.{eqb}
use borrow.Author.Rules.{rules}
use borrow.Author.Tests.{eq-eqb, ne_eqb}
use Rattle.compare.specs.Rules.{Agree}
use Rattle.compare.proofs.Blocks.{joined, apart, whole}
use Rattle.compare.proofs.comparing.same_words.Given as goal

abbrev pub invariant-loop-k : goal.invariant-loop-k
invariant-loop-k l = (l.k ≤ l.n) × Agree l.w l.p l.q l.k true

abbrev pub decreases-loop-k : goal.decreases-loop-k
decreases-loop-k l = l.n - l.k
