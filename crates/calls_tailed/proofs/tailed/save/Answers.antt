-- `tailed::save` meets its contract: the bytes are filled and lent. Assumes nothing.
use Prim.Native.Nat.{◌+◌, ◌-◌}
use Rattle.calls_tailed.proofs.Lent.{saving-is}
use borrow.Author.Rules.{rules}
use native.Mathlib.Omega.{arith}
use Rattle.calls_tailed.proofs.tailed.save.Goals as goal

pub returns : goal.returns
returns c = let a = c.args in
    saving-is a.c a.out.now c.fill.new.out a.at (a.at + a.c.b - a.at) c.requires (omega arith) c.fill.ensures (omega arith) c.save.ensures c.of_answer.ensures
