-- `first` meets its contract. Assumes nothing.
use mathlib.Core.Path.{refl}
use native.Mathlib.Omega.{arith}
use Rattle.setfile_below.proofs.Streams.{turn-room, first_under}
use Rattle.setfile_below.proofs.first.Goals as goal

pub overflow_add-result : goal.overflow_add-result
overflow_add-result c = let (q, p, l, r, ms, u, e) = c.requires in omega (arith, turn-room u e)

pub returns : goal.returns
returns c = (refl, λ q p l r ms u e. first_under u e _ (c.turns.ensures q p l r ms u e))
