-- `write_ranges` meets its contract. The loop's invariant: what is still to be read completes the ranges. Assumes nothing.
use native.Mathlib.Omega.{arith}
use Rattle.kept_ranges.proofs.Turns.{ranging-start, ranging-end, turn-takable, turn-takes}
use Rattle.kept_ranges.proofs.write_ranges.Goals as goal

pub loop-k-init : goal.loop-k-init
loop-k-init c t h = ranging-start h _

pub overflow_cast-k : goal.overflow_cast-k
overflow_cast-k c = let (t, h) = c.requires in
    let o = (turn-takable h (c.loop-k.invariant t h) c.loop-k-test.true).node in
    omega (arith, o.within, o.room.few)

pub take_node-at-requires : goal.take_node-at-requires
take_node-at-requires c = let (t, h) = c.requires in turn-takable h (c.loop-k.invariant t h) c.loop-k-test.true

pub loop-k-preserved : goal.loop-k-preserved
loop-k-preserved c t h = turn-takes h (c.loop-k.invariant t h) c.loop-k-test.true c.take_node-at.ensures

pub shape_of-rows : goal.shape_of-rows
shape_of-rows c = let (t, h) = c.requires in (c.loop-k.invariant t h).stands.kept

pub returns : goal.returns
returns c t h = ranging-end h (c.loop-k.invariant t h) c.loop-k-test.false
