-- `walks::overlap` meets its contract, by the words of the bits. Assumes nothing.
use Prim.Native.Nat.{◌-◌}
use native.Mathlib.Omega.{arith}
use borrow.Author.Tests.{eq-eqb, ne_eqb}
use Rattle.inner_nets.proofs.BitWords.{overlap-high, overlap-low}
use Rattle.inner_nets.proofs.walks.overlap.Goals as goal

pub returns-then-p-q : goal.returns-then-p-q
returns-then-p-q c = let a = c.args in
    rw (overlap-low a.p a.q (128 - c.min-k.result) (omega arith) (omega arith) (omega arith) (omega arith) (omega arith) (omega arith) (omega arith) (omega arith), ne_eqb a.p.hi a.q.hi c.if-p-q.true)

pub returns-then-k-lt64 : goal.returns-then-k-lt64
returns-then-k-lt64 c = let a = c.args in
    rw (overlap-low a.p a.q (128 - c.min-k.result) (omega arith) (omega arith) (omega arith) (omega arith) (omega arith) (omega arith) (omega arith) (omega arith), eq-eqb a.p.hi a.q.hi c.if-p-q.false)
    c.agree.ensures

pub returns : goal.returns
returns c = let a = c.args in
    rw (overlap-high a.p a.q (128 - c.min-k.result) (omega arith) (omega arith) (omega arith) (omega arith) (omega arith) (omega arith) (omega arith) (omega arith))
    c.agree-2.ensures
