-- `heads::move_on` meets its contract. Assumes nothing.
-- the first lane, gone on
use mathlib.Core.Path.{refl}
use Rattle.setfile_lanes.specs.Lanes.{lane_at, lanes_of, Onward}
use Rattle.setfile_order.proofs.Onwards.{here-asks, onward-sinks, flow-onward, dropped-asks, flow-dropped}
use Rattle.setfile_order.proofs.heads.move_on.Goals as goal

gone : (c : goal.After-sink-arg-1) → let a = c.args in Onward a.bytes.now a.family (lane_at a.cursors.now 0) c.onward-x.result
gone c = rw c.lane_at.ensures at c.onward-x.ensures

gone-then-x : (c : goal.Then-x) → let a = c.args in Onward a.bytes.now a.family (lane_at a.cursors.now 0) c.onward-x.result
gone-then-x c = rw c.lane_at.ensures at c.onward-x.ensures

gone-cursors-1 : (c : goal.After-cursors-1) → let a = c.args in Onward a.bytes.now a.family (lane_at a.cursors.now 0) c.onward-x.result
gone-cursors-1 c = rw c.lane_at.ensures at c.onward-x.ensures

pub onward-x-requires : goal.onward-x-requires
unfolding lanes_of
onward-x-requires c = here-asks c.requires.2 _ c.lane_at.ensures

pub sink-requires : goal.sink-requires
unfolding lanes_of
sink-requires c = onward-sinks c.requires.2 (gone c)

pub returns-then-x : goal.returns-then-x
unfolding lanes_of
returns-then-x c q ms o = flow-onward o (gone-then-x c) c.sink.ensures.1 c.if-x.true

pub overflow_sub-cursors : goal.overflow_sub-cursors
unfolding lanes_of
overflow_sub-cursors c = dropped-asks c.requires.2 (gone-cursors-1 c) c.sink.ensures.1 c.if-x.false

pub returns : goal.returns
unfolding lanes_of
returns c q ms o = flow-dropped o (gone-cursors-1 c) c.sink.ensures.1 c.if-x.false _ refl
