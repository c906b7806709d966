-- `are_indexes` meets its contract. The loop's invariant: the tags and indexes that are left decide. Assumes nothing.
use Prim.Native.Nat.{◌-◌}
use lib.ListN.{get_or}
use native.Mathlib.Omega.{arith}
use borrow.Author.Rules.{rules}
use Rattle.pool_check.proofs.Indexes.{read-header, Left, left-start, left-wrong, left-on, left_end}
use Rattle.pool_check.proofs.are_indexes.Given as goal

abbrev pub invariant-loop-s : goal.invariant-loop-s
invariant-loop-s l = Left l.w l.s l.j
