-- `judging::room` meets its contract, by what the survey has seen. Assumes nothing.
use native.Mathlib.Omega.{arith}
use borrow.Author.Rules.{rules}
use Rattle.pool_state.proofs.Seen.{figures, seen_as}
use Rattle.pool_state.proofs.Judged.{room-share, room-held}
use Rattle.pool_change.proofs.judging.room.Goals as goal

pub bounds-w-set : goal.bounds-w-set
bounds-w-set c = omega (arith, figures c.requires)

pub bounds-w-3 : goal.bounds-w-3
bounds-w-3 c = omega (arith, figures c.requires)

pub overflow_sub-result : goal.overflow_sub-result
overflow_sub-result c = omega (arith, figures c.requires)

pub overflow_sub-result-then-v-share : goal.overflow_sub-result-then-v-share
overflow_sub-result-then-v-share c = omega (arith, figures c.requires)

pub returns-then-v-share : goal.returns-then-v-share
returns-then-v-share c S d = room-share (seen_as c.requires S d) c.if-v-share.true

pub bounds-w-3-2 : goal.bounds-w-3-2
bounds-w-3-2 c = omega (arith, figures c.requires)

pub overflow_sub-result-2 : goal.overflow_sub-result-2
overflow_sub-result-2 c = omega (arith, figures c.requires)

pub overflow_sub-result-3 : goal.overflow_sub-result-3
overflow_sub-result-3 c = omega (arith, figures c.requires)

pub returns : goal.returns
returns c S d = room-held (seen_as c.requires S d) c.if-v-share.false
