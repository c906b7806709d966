-- `visit` meets its contract: two steps, and the walk is written. Assumes nothing.
use Rattle.trie_lanes.proofs.LaneRows.{moved}
use Rattle.trie_lanes.proofs.visit.Goals as goal

pub step-m-requires : goal.step-m-requires
step-m-requires c = let h = c.requires in (h.0, rw c.lane_at-l.ensures h.3)

pub returns : goal.returns
returns c = let h = c.requires in
    moved _ _ _ _ _ _ _ _ _ h.2 h.1 c.lane_at-l.ensures c.step-m.ensures c.step-r.ensures c.keep.ensures
