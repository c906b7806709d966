-- `tailed::mend` meets its contract: the bytes are filled and lent. Assumes nothing.
use Prim.Native.Nat.{◌+◌, ◌-◌}
use Rattle.calls_tailed.proofs.Lent.{mending-is}
use borrow.Author.Rules.{rules}
use native.Mathlib.Omega.{arith}
use Rattle.calls_tailed.proofs.tailed.mend.Goals as goal

pub returns : goal.returns
returns c = let a = c.args in
    mending-is a.c a.out.now c.fill.new.out a.at (a.at + a.c.b - a.at) c.requires.1 (omega arith) c.fill.ensures a.s.now (omega arith) c.salvage.ensures c.of_salvaged.ensures
