-- `holding::hold` meets its contract: room is made, then the network is put there unless it lies beyond the bound. Assumes nothing.
use mathlib.Core.Path.{refl, sym, ◌∙◌}
use native.Mathlib.Omega.{arith}
use borrow.Author.Rules.{rules}
use Rattle.salvage_batch.proofs.Thinnings.{kept_trans, kept-written}
use Rattle.salvage_batch.proofs.Holdings.{holds-beyond, put-fits, holds-put}
use Rattle.salvage_batch.proofs.holding.hold.Goals as goal

pub make_room-g-requires : goal.make_room-g-requires
make_room-g-requires c = c.requires.holds

pub is_beyond-requires : goal.is_beyond-requires
is_beyond-requires c = let p = c.requires in
    (_, p.clean, (c.make_room-g.ensures.holds _ _ p.holds.2).edge)

pub returns-then-is_beyond : goal.returns-then-is_beyond
returns-then-is_beyond c = let p = c.requires in
    record { kept = c.make_room-g.ensures.kept; holds_2 = λ S a o w. holds-beyond (c.make_room-g.ensures.holds S a o) p.clean w (sym c.is_beyond.ensures ∙ c.if-is_beyond.true) }

pub put_entry-requires : goal.put_entry-requires
put_entry-requires c = let p = c.requires in
    let f = put-fits (c.make_room-g.ensures.holds _ _ p.holds.2) c.make_room-g.ensures.count_lt_most in
    (p.clean, f.0, f.1)

pub overflow_add-result : goal.overflow_add-result
overflow_add-result c = let p = c.requires in
    omega (arith, c.make_room-g.ensures.count_lt_most, p.holds.2.room.few)

pub returns : goal.returns
returns c = let p = c.requires in
    record { kept = kept_trans c.make_room-g.ensures.kept (kept-written _ _ _ _ c.put_entry.ensures c.make_room-g.ensures.count_lt_most); holds_2 = (λ S a o w. holds-put (c.make_room-g.ensures.holds S a o) p.clean w c.make_room-g.ensures.count_lt_most (sym c.is_beyond.ensures ∙ c.if-is_beyond.false) c.put_entry.ensures _ refl refl) }
