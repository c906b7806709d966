-- `leave` meets its contract: the row is as it was, or one entry shorter. Assumes nothing.
use Rattle.trie_lanes.proofs.LaneRows.{live-leave}
use Rattle.trie_lanes.proofs.leave.Goals as goal

pub returns : goal.returns
returns c = let h = c.requires in (live-leave _ _ _ _ h.0 h.1, rw c.if-on.false)
