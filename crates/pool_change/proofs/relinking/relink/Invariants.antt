-- `relinking::relink` meets its contract. The loop's invariant: the roots still to be written complete it. Assumes nothing.
use mathlib.Core.Path.{◌∙◌}
use Prim.Native.Nat.{◌-◌}
use native.Mathlib.Omega.{arith}
use borrow.Author.Rules.{rules}
use lib.ListN.{length-set}
use Rattle.pool_state.proofs.Relinked.{Turn, turn-first, turn-next, turns}
use Rattle.pool_change.proofs.relinking.relink.Given as goal

abbrev pub invariant-loop-s : goal.invariant-loop-s
invariant-loop-s l = Turn l.initial.w l.set l.old l.new l.sets l.w l.s
