-- `size_with` meets its contract, by the form. Assumes nothing.
use native.Mathlib.Omega.{arith}
use Rattle.pool_state.proofs.Seen.{figures}
use Rattle.change_edit.proofs.size_with.Goals as goal

pub bounds-pool-5 : goal.bounds-pool-5
bounds-pool-5 c = let (k, h) = c.requires in omega (arith, figures h.surveyed)

pub first_size-requires : goal.first_size-requires
first_size-requires c = let (k, h) = c.requires in (c.if-pool-eq0.true, (k, _, h))

pub returns-then-pool-eq0 : goal.returns-then-pool-eq0
returns-then-pool-eq0 c k h = c.first_size.ensures k _ h

pub second_size-requires : goal.second_size-requires
second_size-requires c = let (k, h) = c.requires in (c.if-pool-eq0.false, (k, _, h))

pub returns : goal.returns
returns c k h = c.second_size.ensures k _ h
