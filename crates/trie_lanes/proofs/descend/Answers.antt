-- `descend` meets its contract. The loop's invariant: the walks have gone on from where they began. Assumes nothing.
use Rattle.trie_lanes.proofs.LaneRows.{all_stay, all-on, all-twice}
use Rattle.trie_lanes.proofs.descend.Goals as goal

pub loop-init : goal.loop-init
loop-init c = let h = c.requires in (all_stay _ _ _ _ _ h.1, h.2)

pub round-k-requires : goal.round-k-requires
round-k-requires c = let h = c.requires in
    (h.0, all-on _ _ _ _ _ _ h.1 c.loop.invariant.0, c.loop.invariant.1)

pub returns-then-k-eq0 : goal.returns-then-k-eq0
returns-then-k-eq0 c = all-twice _ _ _ _ _ _ _ c.loop.invariant.0 c.round-k.ensures.0

pub loop-preserved : goal.loop-preserved
loop-preserved c = (all-twice _ _ _ _ _ _ _ c.loop.invariant.0 c.round-k.ensures.0, c.round-k.ensures.1)

pub returns : goal.returns
returns c = c.loop.invariant.0
