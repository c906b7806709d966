-- The loop of `reach`: `Reached.Going` is all that is known of the walk, which has so many steps before it as there are turns left.
use Rattle.std.proofs.Common.{suc, ◌-◌}
use Rattle.pool_state.specs.Decode.{decode}
use Rattle.walk.specs.Walks.{walk_no}
use Rattle.walk.specs.Places.{stage_in}
use Rattle.walk.proofs.Reached.{Going}
use Rattle.walk.proofs.reaching.reach.Given as goal

abbrev pub invariant-loop-k : goal.invariant-loop-k
invariant-loop-k l = Going (stage_in (decode l.pool) l.set l.left).spot (walk_no (decode l.pool) l.set) (suc l.left - l._k) l.w
