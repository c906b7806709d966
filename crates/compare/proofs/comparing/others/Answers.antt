-- `comparing::others` meets its contract. The loop's invariant: the count tells whether the words before the k-th agree. Assumes nothing.
use mathlib.Core.Path.{◌≡◌}
use Prim.Native.Nat.{◌+◌, ◌-◌, ◌≤◌}
use native.Mathlib.Omega.{arith}
use lib.Dec.{eqb}
use lib.ListN.{get_or}
use borrow.Author.Rules.{rules}
use Rattle.compare.specs.Rules.{Agree}
use Rattle.compare.proofs.Blocks.{counted, few, from-other}
use Rattle.compare.proofs.comparing.others.Goals as goal

pub loop-k-init : goal.loop-k-init
loop-k-init c = (omega arith, λ j l. absurd (omega arith))

pub overflow_add-count : goal.overflow_add-count
overflow_add-count c = let a = c.args in
    let k = c.loop-k.k in
    omega (arith, c.loop-k-test.true, few (eqb (get_or a.w.now (a.p + k) 0) (get_or a.w.now (a.q + k) 0)) (from-other _ c.from-count.ensures))

pub loop-k-preserved : goal.loop-k-preserved
loop-k-preserved c = let a = c.args in
    let o = c.loop-k in
    let e = from-other _ c.from-count.ensures in
    (omega (arith, few (eqb (get_or a.w.now (a.p + o.k) 0) (get_or a.w.now (a.q + o.k) 0)) e), counted _ _ _ o.k o.count e o.invariant.1)

pub returns : goal.returns
returns c = let e : c.loop-k.k ≡ c.args.n = omega (arith, c.loop-k-test.false, c.loop-k.auto.k-end) in rw e at c.loop-k.invariant.1
