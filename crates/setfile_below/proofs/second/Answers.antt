-- `second` meets its contract. Assumes nothing.
use mathlib.Core.Path.{refl}
use native.Mathlib.Omega.{arith}
use Rattle.setfile_below.proofs.Streams.{turn-room, second-under}
use Rattle.setfile_below.proofs.second.Goals as goal

pub overflow_add-result : goal.overflow_add-result
overflow_add-result c = let (q, p, l, r, ms, u, e) = c.requires in omega (arith, turn-room u e)

pub returns : goal.returns
returns c = (refl, λ q p l r ms u e o. second-under u e _ _ (c.more.ensures q p l r ms u e o) o)
