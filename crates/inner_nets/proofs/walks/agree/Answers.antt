-- `walks::agree` meets its contract: where all 64 bits and more are low ones nothing is left of either word. Assumes nothing.
use Prim.Native.Nat.{ℕ, ◌/◌, ◌^◌, ◌≤◌, ◌<◌}
use mathlib.Core.Path.{◌≡◌}
use native.Mathlib.Nat.{lt_of_lt_of_le, div-eq_of_lt}
use lib.Pow.{pow_mono}
use Rattle.inner_nets.proofs.walks.agree.Goals as goal

gone : (x k : ℕ) → x < 2 ^ 64 → 64 ≤ k → x / 2 ^ k ≡ 0
gone x k h l = div-eq_of_lt (lt_of_lt_of_le h (pow_mono l))

pub returns-else-k-lt64 : goal.returns-else-k-lt64
returns-else-k-lt64 c = rw (gone c.args.x c.args.k c.ranges.x.fits c.if-k-lt64.false, gone c.args.y c.args.k c.ranges.y.fits c.if-k-lt64.false)
