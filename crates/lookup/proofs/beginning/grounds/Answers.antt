-- `beginning::grounds` meets its contract. Assumes nothing.
use native.Mathlib.Omega.{arith}
use borrow.Author.Rules.{rules}
use Rattle.pool_state.proofs.Header.{is_header-header}
use Rattle.lookup.proofs.beginning.grounds.Goals as goal

pub bounds-w-2 : goal.bounds-w-2
bounds-w-2 c = let p = c.requires in omega (arith, is_header-header _ p.0, p)

pub overflow_cast-result : goal.overflow_cast-result
overflow_cast-result c = let p = c.requires in omega (arith, is_header-header _ p.0, p)

pub overflow_mul-result : goal.overflow_mul-result
overflow_mul-result c = let p = c.requires in omega (arith, is_header-header _ p.0, p)

pub overflow_add-result : goal.overflow_add-result
overflow_add-result c = let p = c.requires in omega (arith, is_header-header _ p.0, p)

pub bounds-w-3 : goal.bounds-w-3
bounds-w-3 c = let p = c.requires in omega (arith, is_header-header _ p.0, p)

pub overflow_mul-result-2 : goal.overflow_mul-result-2
overflow_mul-result-2 c = let p = c.requires in omega (arith, is_header-header _ p.0, p)

pub overflow_add-result-2 : goal.overflow_add-result-2
overflow_add-result-2 c = let p = c.requires in omega (arith, is_header-header _ p.0, p)

pub offset_bounds-w-set : goal.offset_bounds-w-set
offset_bounds-w-set c = let p = c.requires in omega (arith, is_header-header _ p.0, p)

pub bounds-w-set : goal.bounds-w-set
bounds-w-set c = let p = c.requires in omega (arith, is_header-header _ p.0, p)
