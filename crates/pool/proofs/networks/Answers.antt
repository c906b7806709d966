-- `networks` meets its contract: the zeros among the words of a trie, or by its nodes in the second form. Assumes nothing.
use mathlib.Core.Path.{◌∙◌}
use native.Mathlib.Omega.{arith}
use Rattle.pool_state.proofs.Seen.{seen, seen_as, figures}
use Rattle.pool.proofs.Reports.{seat-base, seat-first, networks-first, networks-second}
use Rattle.pool.proofs.networks.Goals as goal

pub bounds-pool-5 : goal.bounds-pool-5
bounds-pool-5 c = omega (arith, figures c.requires)

pub seat_in-seat-requires : goal.seat_in-seat-requires
seat_in-seat-requires c = (_, c.requires)

pub overflow_sub-seat : goal.overflow_sub-seat
overflow_sub-seat c = omega (arith, figures c.requires, seat-first (seen c.requires).1 c.seat_in-seat.ensures)

pub overflow_add-seat : goal.overflow_add-seat
overflow_add-seat c = omega (arith, figures c.requires, seat-first (seen c.requires).1 c.seat_in-seat.ensures, seat-base (seen c.requires).1 c.seat_in-seat.ensures)

pub zeros_at-requires : goal.zeros_at-requires
zeros_at-requires c = omega (arith, figures c.requires, seat-first (seen c.requires).1 c.seat_in-seat.ensures, seat-base (seen c.requires).1 c.seat_in-seat.ensures)

pub returns-then-pool-eq0 : goal.returns-then-pool-eq0
returns-then-pool-eq0 c S d = c.zeros_at.ensures ∙ networks-first (seen_as c.requires S d) c.if-pool-eq0.true c.seat_in-seat.ensures

pub overflow_add-result : goal.overflow_add-result
overflow_add-result c = omega (arith, figures c.requires)

pub returns : goal.returns
returns c S d = networks-second (seen_as c.requires S d) c.if-pool-eq0.false
