-- `nearest` meets its contract, by its tests. Assumes nothing.
use borrow.Author.Tests.{not-true, not-false, eq-eqb, ne_eqb}
use mathlib.Core.Path.{ap, sym, ◌∙◌}
use Rattle.nets.specs.Lists.{is_past}
use Rattle.setfile_entries.proofs.Ordered.{entry-pair}
use Rattle.kept_nodes.specs.Parse.{dist_at}
use Rattle.kept_next.specs.Nearest.{place_at, comes_first}
use Rattle.kept_next.proofs.Nearer.{nearest-before, turn-far, turn_near, near-entry, read-net, read-bits, read-entry}
use Rattle.kept_next.proofs.nearest.Goals as goal

pub distance-requires : goal.distance-requires
distance-requires c = let h = c.requires.0.node in
    record { kept_room = h.room; le_i = (h.one, h.within) }

pub returns-then-distance-ne0 : goal.returns-then-distance-ne0
returns-then-distance-ne0 c ms g = let a = c.args in rw (ne_eqb (dist_at a.family a.w.now a.b a.k) 0 (λ e. c.if-distance-ne0.true (c.distance.ensures.0 ∙ e))) g

pub net_at-x-requires : goal.net_at-x-requires
net_at-x-requires c = let h = c.requires.0.node in
    record { kept_room = h.room; le_i = (h.one, h.within) }

pub is_past-requires : goal.is_past-requires
is_past-requires c y b = let h = c.requires.0 in entry-pair (h.entry y b) (read-entry h c.net_at-x.ensures.is)

pub returns-then-not-is_past : goal.returns-then-not-is_past
returns-then-not-is_past c ms g = let a = c.args in
    let tested = c.is_past.ensures ∙ ap (is_past (place_at a.last)) (read-bits c.requires.0 c.net_at-x.ensures.is) in
    rw (eq-eqb (dist_at a.family a.w.now a.b a.k) 0 (sym c.distance.ensures.0 ∙ c.if-distance-ne0.false))
    (nearest-before g _ (sym tested ∙ not-true _ c.if-not-is_past.true-raw))

pub is_nearer-requires : goal.is_nearer-requires
is_nearer-requires c y b = let h = c.requires.0 in
    let (ms, g) = c.requires.1 in
    entry-pair (read-entry h c.net_at-x.ensures.is) (near-entry g h.node.room.family y b)

pub returns-then-not-is_nearer : goal.returns-then-not-is_nearer
returns-then-not-is_nearer c ms g = let a = c.args in
    let nearer = c.is_nearer.ensures ∙ ap (λ y. comes_first y a.best) (read-bits c.requires.0 c.net_at-x.ensures.is) in
    rw (eq-eqb (dist_at a.family a.w.now a.b a.k) 0 (sym c.distance.ensures.0 ∙ c.if-distance-ne0.false))
    (turn-far g _ _ nearer (not-true _ c.if-not-is_nearer.true-raw))

pub returns : goal.returns
returns c ms g = let a = c.args in
    let h = c.requires.0 in
    let tested = c.is_past.ensures ∙ ap (is_past (place_at a.last)) (read-bits h c.net_at-x.ensures.is) in
    let nearer = c.is_nearer.ensures ∙ ap (λ y. comes_first y a.best) (read-bits h c.net_at-x.ensures.is) in
    rw (eq-eqb (dist_at a.family a.w.now a.b a.k) 0 (sym c.distance.ensures.0 ∙ c.if-distance-ne0.false))
    (turn_near g _ _ nearer (not-false _ c.if-not-is_nearer.false-raw) _ (read-net h c.net_at-x.ensures.is) h.node.short
    (sym tested ∙ not-false _ c.if-not-is_past.false-raw))
