-- `words::keep` meets its contract: below 64 bits nothing is shifted out, and from there on nothing is left. Assumes nothing.
use mathlib.Core.Path.{sym}
use Prim.Native.Nat.{◌^◌}
use native.Mathlib.Nat.{lt_of_le_of_lt, div-mul-le_self, mod-eq_of_lt}
use native.Mathlib.Omega.{arith}
use Rattle.nets.proofs.TwoWords.{keep_all}
use Rattle.nets.proofs.words.keep.Goals as goal

pub returns-then-k-lt64 : goal.returns-then-k-lt64
returns-then-k-lt64 c = mod-eq_of_lt (lt_of_le_of_lt (div-mul-le_self c.args.x (2 ^ c.args.k)) c.ranges.x.fits)

pub returns-else-k-lt64 : goal.returns-else-k-lt64
returns-else-k-lt64 c = sym (keep_all c.args.x c.args.k c.ranges.x.fits (omega arith))
