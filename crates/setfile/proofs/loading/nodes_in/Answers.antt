-- `loading::nodes_in` meets its contract: the nodes of the file's list in the pool's form. Assumes nothing.
use native.Mathlib.Omega.{arith}
use Rattle.setfile.proofs.Filling.{count-there, count-few, takes_first, takes-second}
use Rattle.setfile.proofs.loading.nodes_in.Goals as goal

pub returns-then-is_first : goal.returns-then-is_first
returns-then-is_first c f l reads q = takes_first c.args.pool.now c.is_first.ensures c.if-is_first.true l q

pub number-m-requires : goal.number-m-requires
number-m-requires c = count-there _ c.requires.2

pub returns-then-m-eq0 : goal.returns-then-m-eq0
returns-then-m-eq0 c f l reads q = takes-second _ reads c.number-m.ensures c.args.pool.now c.is_first.ensures c.if-is_first.false (omega arith)

pub overflow_mul-result : goal.overflow_mul-result
overflow_mul-result c = omega (arith, count-few _ c.requires.2 c.number-m.ensures)

pub returns : goal.returns
returns c f l reads q = takes-second _ reads c.number-m.ensures c.args.pool.now c.is_first.ensures c.if-is_first.false (omega arith)
