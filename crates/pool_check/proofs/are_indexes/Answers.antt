-- `are_indexes` meets its contract. The loop's invariant: the tags and indexes that are left decide. Assumes nothing.
use Prim.Native.Nat.{◌-◌}
use lib.ListN.{get_or}
use native.Mathlib.Omega.{arith}
use borrow.Author.Rules.{rules}
use Rattle.pool_check.proofs.Indexes.{read-header, Left, left-start, left-wrong, left-on, left_end}
use Rattle.pool_check.proofs.are_indexes.Goals as goal

pub bounds-w-2 : goal.bounds-w-2
bounds-w-2 c = omega (arith, read-header c.requires)

pub overflow_cast-sets : goal.overflow_cast-sets
overflow_cast-sets c = omega (arith, read-header c.requires)

pub loop-s-init : goal.loop-s-init
loop-s-init c = left-start _

pub index_after-found-requires : goal.index_after-found-requires
index_after-found-requires c = record { s_bound = (c.loop-s-test.true, c.loop-s.invariant.few); w_value = c.requires }

pub returns-in_default : goal.returns-in_default
returns-in_default c = left-wrong c.loop-s.invariant c.index_after-found.ensures c.in_default.is

pub loop-s-preserved : goal.loop-s-preserved
loop-s-preserved c = left-on c.loop-s.invariant c.index_after-found.ensures _ c.in-Some.is c.loop-s-test.true

pub bounds-w-4 : goal.bounds-w-4
bounds-w-4 c = omega (arith, read-header c.requires)

pub returns : goal.returns
returns c = left_end c.loop-s.invariant c.loop-s-test.false
