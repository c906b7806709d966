-- `lanes::behind` meets its contract, by its tests. Assumes nothing.
use native.Mathlib.Omega.{arith}
use borrow.Author.Tests.{not-false}
use Rattle.kept_next.proofs.Behind.{entry-string, lane-behind}
use Rattle.kept_next.proofs.lanes.behind.Goals as goal

pub seek-k-requires : goal.seek-k-requires
seek-k-requires c = let (t, h) = c.requires.1 in
    record { kept_room = (h.room, entry-string h.room.family c.requires.0 (omega arith)); le_i = omega (arith, h.one, h.end, h.stands.within) }

pub returns-then-e-k : goal.returns-then-e-k
returns-then-e-k c t r h e = absurd (cc e)

pub overflow_cast-k : goal.overflow_cast-k
overflow_cast-k c = let h = c.requires.1.1 in omega (arith, c.if-e-k.false, h.end, h.stands.within, h.room.few)

pub is_at-requires : goal.is_at-requires
is_at-requires c = let h = c.requires.1.1 in
    record { kept_room = h.room; le_k = omega (arith, c.if-e-k.false, c.seek-k.ensures, h.one, h.end, h.stands.within) }

pub returns-then-not-is_at : goal.returns-then-not-is_at
returns-then-not-is_at c t r h e = absurd (cc e)

pub next_in_lane-requires : goal.next_in_lane-requires
next_in_lane-requires c = let h = c.requires.1.1 in
    record { kept_room = h.room; le_i = omega (arith, c.if-e-k.false, h.one, h.end, h.stands.within) }

pub returns : goal.returns
returns c t r h z = let m = c.is_at.ensures (not-false _ c.if-not-is_at.false-raw) in
    lane-behind h c.seek-k.ensures c.if-e-k.false m.0 (omega (arith, c.well_formed)) m.1 (c.next_in_lane.ensures r z)
