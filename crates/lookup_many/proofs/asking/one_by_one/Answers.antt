-- `asking::one_by_one` meets its contract. The loop's invariant: what is left to write completes the row. Assumes nothing.
use mathlib.Core.Path.{◌∙◌, ap}
use Prim.Native.Nat.{◌-◌, ◌/◌}
use native.Mathlib.Omega.{arith}
use borrow.Author.Rules.{rules}
use lib.ListN.{length}
use Rattle.lookup_many.specs.Rules.{asked_of}
use Rattle.lookup_many.proofs.Rows.{Filling, filling-start, filling-next, filling-end, asked-shown}
use Rattle.lookup_many.proofs.asking.one_by_one.Goals as goal

pub loop-i-init : goal.loop-i-init
loop-i-init c = let h = c.requires in filling-start _ _ _ _ h.2 h.3

pub query_at-net-requires : goal.query_at-net-requires
query_at-net-requires c = c.loop-i-test.true

pub query-requires : goal.query-requires
query-requires c = let h = c.requires in (h.0, h.1)

pub bounds-answers-i : goal.bounds-answers-i
bounds-answers-i c = omega (arith, c.loop-i.invariant.room, c.loop-i-test.true)

pub loop-i-preserved : goal.loop-i-preserved
loop-i-preserved c = filling-next _ _ _ _ _ _ _ c.loop-i.invariant c.loop-i-test.true
    (asked-shown _ _ _ _ _ _ _ _ c.query_at-net.ensures c.query.ensures c.number_of.ensures)

pub shape_of-answers : goal.shape_of-answers
shape_of-answers c = c.loop-i.invariant.same

pub returns : goal.returns
returns c = filling-end _ _ _ _ _ _ c.loop-i.invariant c.loop-i-test.false
