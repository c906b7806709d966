-- `comparing::others` meets its contract. The loop's invariant: the count tells whether the words before the k-th agree. Assumes nothing.
use mathlib.Core.Path.{◌≡◌}
use Prim.Native.Nat.{◌+◌, ◌-◌, ◌≤◌}
use native.Mathlib.Omega.{arith}
use lib.Dec.{eqb}
use lib.ListN.{get_or}
use borrow.Author.Rules.{rules}
use Rattle.compare.specs.Rules.{Agree}
use Rattle.compare.proofs.comparing.others.Given as goal

abbrev pub invariant-loop-k : goal.invariant-loop-k
invariant-loop-k l = (l.count ≤ l.k) × Agree l.w l.p l.q l.k (eqb l.count 0)
