-- `relinking::relink` meets its contract. The loop's invariant: the roots still to be written complete it. Assumes nothing.
use mathlib.Core.Path.{◌∙◌}
use Prim.Native.Nat.{◌-◌}
use native.Mathlib.Omega.{arith}
use borrow.Author.Rules.{rules}
use lib.ListN.{length-set}
use Rattle.pool_state.proofs.Relinked.{Turn, turn-first, turn-next, turns}
use Rattle.pool_change.proofs.relinking.relink.Goals as goal

pub loop-s-init : goal.loop-s-init
loop-s-init c = turn-first c.own_root.result c.requires

pub moved_root-requires : goal.moved_root-requires
moved_root-requires c = c.loop-s.invariant.roots _ (omega arith) (omega arith)

pub loop-s-preserved : goal.loop-s-preserved
loop-s-preserved c = turn-next c.loop-s.invariant c.moved_root.ensures c.loop-s-test.true

pub shape_of-w : goal.shape_of-w
shape_of-w c = c.loop-s.invariant.size ∙ simp length-set

pub returns : goal.returns
returns c = turns _ _ _ c.loop-s.invariant c.own_root.ensures c.loop-s-test.false
