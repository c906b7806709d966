-- `tallying::stray` meets its contract, by its tests. Assumes nothing.
use native.Mathlib.Omega.{arith}
use Rattle.salvage.proofs.Tallies.{stray-long, stray-trimmed, stray-none}
use Rattle.salvage.proofs.tallying.stray.Goals as goal

pub returns-then-width-x : goal.returns-then-width-x
returns-then-width-x c = stray-long c.args.x c.width.ensures c.if-width-x.true

pub returns-then-has_bit_past : goal.returns-then-has_bit_past
returns-then-has_bit_past c = stray-trimmed c.args.x c.width.ensures (omega (arith, c.if-width-x.false)) c.has_bit_past.ensures c.if-has_bit_past.true

pub returns : goal.returns
returns c = stray-none c.args.x c.width.ensures (omega (arith, c.if-width-x.false)) c.has_bit_past.ensures c.if-has_bit_past.false
