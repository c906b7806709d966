-- `seats::seat_in` meets its contract: the words of the header are small. Assumes nothing.
use native.Mathlib.Omega.{arith}
use borrow.Author.Rules.{rules}
use Rattle.pool_state.proofs.Seats.{seat-family}
use Rattle.pool_state.proofs.Seen.{figures}
use Rattle.pool_check.proofs.seats.seat_in.Goals as goal

pub bounds-pool-1 : goal.bounds-pool-1
bounds-pool-1 c = omega (arith, (figures c.requires.1).long)

pub overflow_cast-result : goal.overflow_cast-result
overflow_cast-result c = omega (arith, seat-family c.requires.1)

pub bounds-pool-2 : goal.bounds-pool-2
bounds-pool-2 c = omega (arith, (figures c.requires.1).long)

pub overflow_cast-result-2 : goal.overflow_cast-result-2
overflow_cast-result-2 c = omega (arith, (figures c.requires.1).sets)

pub overflow_mul-result : goal.overflow_mul-result
overflow_mul-result c = omega (arith, (figures c.requires.1).sets)

pub overflow_add-result : goal.overflow_add-result
overflow_add-result c = omega (arith, (figures c.requires.1).sets)
