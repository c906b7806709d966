-- `count` meets its contract. Assumes nothing.
use native.Mathlib.Omega.{arith}
use Rattle.combine_kept.proofs.count.Goals as goal

pub bounds-pool-1 : goal.bounds-pool-1
bounds-pool-1 c = let (v, t, u, h) = c.requires in omega (arith, h.long)

pub overflow_cast-family : goal.overflow_cast-family
overflow_cast-family c = let (v, t, u, h) = c.requires in omega (arith, h.family)

pub bounds-pool-3 : goal.bounds-pool-3
bounds-pool-3 c = let (v, t, u, h) = c.requires in omega (arith, h.long)

pub op_size-requires : goal.op_size-requires
op_size-requires c = let (v, t, u, h) = c.requires in (_, _, t, u, h.inputs)

pub returns : goal.returns
returns c v t u h = c.op_size.ensures _ _ t u h.inputs
