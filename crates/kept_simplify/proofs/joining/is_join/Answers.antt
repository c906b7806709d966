-- `joining::is_join` meets its contract, by its tests. Assumes nothing.
use Rattle.kept_simplify.proofs.Plain.{join-far, join-second, join_first}
use Rattle.kept_simplify.proofs.joining.is_join.Goals as goal

pub returns-then-x-ne-NEXT : goal.returns-then-x-ne-NEXT
returns-then-x-ne-NEXT c = join-far _ _ _ _ c.head-x.ensures c.if-x-ne-NEXT.true

pub returns-then-head-y : goal.returns-then-head-y
returns-then-head-y c = join-second _ _ _ _ c.head-x.ensures c.if-x-ne-NEXT.false c.head.ensures c.if-head-y.true

pub returns : goal.returns
returns c = join_first _ _ _ _ c.head-x.ensures c.if-x-ne-NEXT.false c.head.ensures c.if-head-y.false c.head-2.ensures
