-- `relinking::shift_behind` meets its contract: one move of the words behind the set. Assumes nothing.
use native.Mathlib.Omega.{arith}
use borrow.Author.Rules.{rules}
use Rattle.pool_state.specs.Steps.{behind_at}
use Rattle.pool_change.proofs.Moves.{from-fits, to-fits}
use Rattle.pool_change.proofs.relinking.shift_behind.Goals as goal

pub overflow_mul-s : goal.overflow_mul-s
unfolding behind_at
overflow_mul-s c = omega (arith, from-fits c.requires)

pub overflow_add-b : goal.overflow_add-b
unfolding behind_at
overflow_add-b c = omega (arith, from-fits c.requires)

pub overflow_mul-s-2 : goal.overflow_mul-s-2
unfolding behind_at
overflow_mul-s-2 c = omega (arith, to-fits c.requires)

pub overflow_add-b-2 : goal.overflow_add-b-2
unfolding behind_at
overflow_add-b-2 c = omega (arith, to-fits c.requires)

pub overflow_mul-s-3 : goal.overflow_mul-s-3
unfolding behind_at
overflow_mul-s-3 c = omega (arith, to-fits c.requires)

pub shift-requires : goal.shift-requires
unfolding behind_at
shift-requires c = (from-fits c.requires, to-fits c.requires)

pub returns : goal.returns
unfolding behind_at
returns c = c.shift.ensures
