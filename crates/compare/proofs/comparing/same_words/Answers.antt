-- `comparing::same_words` meets its contract. The loop's invariant: the words before the k-th agree. Assumes nothing.
use mathlib.Core.Bool.{true}
use Prim.Native.Nat.{◌-◌, ◌≤◌}
use native.Mathlib.Omega.{arith}
use lib.Dec.{eqb}
use borrow.Author.Rules.{rules}
use borrow.Author.Tests.{eq-eqb, ne_eqb}
use Rattle.compare.specs.Rules.{Agree}
use Rattle.compare.proofs.Blocks.{joined, apart, whole}
use Rattle.compare.proofs.comparing.same_words.Goals as goal

pub loop-k-init : goal.loop-k-init
loop-k-init c = (omega arith, λ j l. absurd (omega arith))

pub returns-then-others-ne0 : goal.returns-then-others-ne0
returns-then-others-ne0 c = let a = c.args in
    apart a.w.now a.p a.q c.loop-k.k 64 a.n (omega arith) (rw (ne_eqb c.others.result 0 c.if-others-ne0.true) at c.others.ensures)

pub loop-k-preserved : goal.loop-k-preserved
loop-k-preserved c = let a = c.args in
    (omega arith, joined a.w.now a.p a.q c.loop-k.k 64 c.loop-k.invariant.1 (rw (eq-eqb c.others.result 0 c.if-others-ne0.false) at c.others.ensures))

pub returns : goal.returns
returns c = let a = c.args in
    whole a.w.now a.p a.q c.loop-k.k a.n c.loop-k.invariant.0 c.loop-k.invariant.1 (eqb c.others-2.result 0) c.others-2.ensures
