-- `tailed::line` meets its contract: the bytes are filled and lent. Assumes nothing.
use Prim.Native.Nat.{◌+◌, ◌-◌}
use Rattle.calls_tailed.proofs.Lent.{lining-is}
use borrow.Author.Rules.{rules}
use native.Mathlib.Omega.{arith}
use Rattle.calls_tailed.proofs.tailed.line.Goals as goal

pub returns : goal.returns
returns c = let a = c.args in
    lining-is a.c a.out.now c.fill.new.out a.at (a.at + a.c.b - a.at) c.requires (omega arith) c.fill.ensures (omega arith) c.write_line.ensures c.of_written.ensures
