-- `asking::one_by_one` meets its contract. The loop's invariant: what is left to write completes the row. Assumes nothing.
use mathlib.Core.Path.{◌∙◌, ap}
use Prim.Native.Nat.{◌-◌, ◌/◌}
use native.Mathlib.Omega.{arith}
use borrow.Author.Rules.{rules}
use lib.ListN.{length}
use Rattle.lookup_many.specs.Rules.{asked_of}
use Rattle.lookup_many.proofs.Rows.{Filling, filling-start, filling-next, filling-end, asked-shown}
use Rattle.lookup_many.proofs.asking.one_by_one.Given as goal

abbrev pub invariant-loop-i : goal.invariant-loop-i
invariant-loop-i l = Filling (asked_of l.pool l.set l.family l.queries) (length l.queries / 3) l.initial.i l.initial.answers l.answers l.i
