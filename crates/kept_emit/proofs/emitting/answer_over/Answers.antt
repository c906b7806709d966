-- `emitting::answer_over` meets its contract, by its tests. Assumes nothing.
use native.Mathlib.Omega.{arith}
use Prim.Native.Nat.{◌+◌, ◌<◌, ◌^◌}
use Rattle.kept_emit.proofs.Answered.{sizes, over_none, over-leaf, over-second, over_first, over-both}
use Rattle.kept_emit.proofs.emitting.answer_over.Goals as goal

few : (c : goal.After-size_of-y) → c.size_of-x.result + c.size_of-y.result < 2 ^ 62
few c = let d = c.requires.2 in omega (
  arith,
  d.small,
  sizes c.args.joined d _ _ c.size_of-x.ensures
      c.size_of-y.ensures,
)

few-else-y-eq0 : (c : goal.Else-y-eq0) → c.size_of-x.result + c.size_of-y.result < 2 ^ 62
few-else-y-eq0 c = let d = c.requires.2 in omega (
  arith,
  d.small,
  sizes c.args.joined d _ _ c.size_of-x.ensures
      c.size_of-y.ensures,
)

pub overflow_add-x : goal.overflow_add-x
overflow_add-x c = omega (arith, few c)

pub returns-then-x-y-eq0 : goal.returns-then-x-y-eq0
returns-then-x-y-eq0 c t u d = over_none _ d _ _ c.size_of-x.ensures c.size_of-y.ensures c.if-x-y-eq0.true

pub returns-then-joins : goal.returns-then-joins
returns-then-joins c t u d = over-leaf _ d _ _ c.size_of-x.ensures c.size_of-y.ensures _ c.joins.ensures
    c.if-joins.true

pub returns-then-x-eq0 : goal.returns-then-x-eq0
returns-then-x-eq0 c t u d = over-second _ d _ _ c.size_of-x.ensures c.size_of-y.ensures _ c.joins.ensures c.if-x-y-eq0.false c.if-joins.false c.if-x-eq0.true

pub returns-then-y-eq0 : goal.returns-then-y-eq0
returns-then-y-eq0 c t u d = over_first _ d _ _ c.size_of-x.ensures c.size_of-y.ensures _ c.joins.ensures c.if-x-y-eq0.false c.if-joins.false c.if-y-eq0.true

pub overflow_add-result : goal.overflow_add-result
overflow_add-result c = omega (arith, few-else-y-eq0 c)

pub overflow_add-result-2 : goal.overflow_add-result-2
overflow_add-result-2 c = omega (arith, few-else-y-eq0 c)

pub returns : goal.returns
returns c t u d = over-both _ d _ _ c.size_of-x.ensures c.size_of-y.ensures _ c.joins.ensures c.if-x-y-eq0.false c.if-joins.false c.if-x-eq0.false
    c.if-y-eq0.false
