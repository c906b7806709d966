-- `next_after` meets its contract: the next of the same length where it was found, else the nearest of all. Assumes nothing.
use mathlib.Core.Path.{sym, ◌∙◌}
use native.Mathlib.Omega.{arith}
use Rattle.kept_next.proofs.Behind.{behind-follows}
use Rattle.kept_next.proofs.next_after.Goals as goal
use Rattle.kept_next.proofs.next_after.Goals.{in-Some+in_default-behind, in_default}

pub behind-requires : goal.behind-requires
behind-requires c = (c.requires.0 _ c.in-Some.is, c.requires.1)

pub overflow_cast-k : goal.overflow_cast-k
overflow_cast-k c = let h = c.requires.1.1 in
    let g = c.behind.ensures _ _ h c.in-Some-behind.is in
    omega (arith, g.to, h.end, h.stands.within, h.room.few)

pub net_at-requires : goal.net_at-requires
net_at-requires c = let h = c.requires.1.1 in
    let g = c.behind.ensures _ _ h c.in-Some-behind.is in
    record { kept_room = h.room; le_i = omega (arith, g.from, g.to, h.one, h.end, h.stands.within) }

pub returns-in-Some-behind : goal.returns-in-Some-behind
returns-in-Some-behind c t h = behind-follows (c.behind.ensures t _ h c.in-Some-behind.is) _ c.net_at.ensures.is _ c.in-Some.is

pub nearest_of_all-requires : goal.nearest_of_all-requires
nearest_of_all-requires c = elim c.match-last.branch [ in-Some+in_default-behind w ↦ rw (w.last-is ∙ sym w.in-Some.is) c.requires | in_default w ↦ rw w.last-is c.requires ]

pub returns : goal.returns
returns c t h = let r = c.nearest_of_all.ensures t h in
    elim c.match-last.branch [ in-Some+in_default-behind w ↦ rw (w.last-is ∙ sym w.in-Some.is) at r | in_default w ↦ rw w.last-is at r ]
