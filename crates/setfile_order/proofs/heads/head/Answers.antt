-- `heads::head` meets its contract. Assumes nothing.
use native.Mathlib.Omega.{arith}
use Rattle.setfile_lanes.specs.Lanes.{lanes_of}
use Rattle.setfile_order.proofs.First.{head-none, finds, finds-small, finds-shares, finds-head}
use Rattle.setfile_order.proofs.heads.head.Goals as goal

pub returns-then-cursors-eq0 : goal.returns-then-cursors-eq0
unfolding lanes_of
returns-then-cursors-eq0 c d q ms s = head-none ms s c.if-cursors-eq0.true

pub overflow_cast-net : goal.overflow_cast-net
unfolding lanes_of
overflow_cast-net c = let p = c.requires in
    omega (arith, finds-small p.3 _ c.lane_at-x.ensures (finds _ p.3 c.if-cursors-eq0.false))

pub shared-requires : goal.shared-requires
unfolding lanes_of
shared-requires c = let p = c.requires in
    finds-shares p.3 _ c.lane_at-x.ensures (finds _ p.3 c.if-cursors-eq0.false)

pub returns : goal.returns
unfolding lanes_of
returns c _ q ms s = finds-head s _ c.lane_at-x.ensures (finds _ s c.if-cursors-eq0.false) _ c.shared.ensures
