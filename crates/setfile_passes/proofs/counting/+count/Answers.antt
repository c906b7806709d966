-- `counting::count` meets its contract, by the depth that is left. Assumes nothing.
use mathlib.Core.Path.{◌∙◌}
use native.Mathlib.Omega.{arith}
use borrow.Author.Tests.{not-true, not-false}
use Rattle.setfile_below.proofs.Streams.{at_some, pass-nothing, part-under, first-falls, second-falls, pass-both}
use Rattle.setfile_passes.proofs.Passes.{opened, settled, one, two, opened-pour, count-sum, count_left, count-right, kept}
use Rattle.setfile_passes.proofs.counting.+count.Goals as goal

pub nodes_of-nodes-requires : goal.nodes_of-nodes-requires
nodes_of-nodes-requires τ c = let (q, p, u, ms, t, g) = c.requires in (_, _, t, g.part)

pub returns-then-not-s : goal.returns-then-not-s
returns-then-not-s τ c q p u ms t g = let h = not-true _ c.if-not-s.true in
    (c.nodes_of-nodes.ensures _ _ t g.part ∙ rw (kept g.at h _ t), pass-nothing g.at h)

pub is_whole-requires : goal.is_whole-requires
is_whole-requires τ c = tt

pub step-x-requires : goal.step-x-requires
step-x-requires τ c = let (q, p, u, ms, t, g) = c.requires in (t, g.part)

pub flat_size-nodes-requires : goal.flat_size-nodes-requires
flat_size-nodes-requires τ c = tt

pub pass-behind-requires : goal.pass-behind-requires
pass-behind-requires τ c = let (q, p, u, ms, t, g) = c.requires in (q, p, u, ms, g.at)

pub first-f-requires : goal.first-f-requires
first-f-requires τ c =
    let g = c.requires.5 in
    let h = not-false _ c.if-not-s.false in
    let o = opened g.at h _ (c.is_whole.ensures _ _ _ _ g.at.under (at_some g.at h)) _ _ _ _ _ (rw c.in-Halves.is at (c.step-x.ensures _ g.part)) in
    part-under o.part

pub count-l-requires : goal.count-l-requires
count-l-requires τ c =
    let g = c.requires.5 in
    let h = not-false _ c.if-not-s.false in
    let o = opened g.at h _ (c.is_whole.ensures _ _ _ _ g.at.under (at_some g.at h)) _ _ _ _ _ (rw c.in-Halves.is at (c.step-x.ensures _ g.part)) in
    let f = c.first-f.ensures in
    (omega (arith, first-falls o.part _ f, c.decreases), (_, _, _, _, _, count_left o c.requires.5.few _ f))

pub second-g-requires : goal.second-g-requires
second-g-requires τ c =
    let g = c.requires.5 in
    let h = not-false _ c.if-not-s.false in
    let o = opened g.at h _ (c.is_whole.ensures _ _ _ _ g.at.under (at_some g.at h)) _ _ _ _ _ (rw c.in-Halves.is at (c.step-x.ensures _ g.part)) in
    part-under o.part

pub count-r-requires : goal.count-r-requires
count-r-requires τ c =
    let g = c.requires.5 in
    let h = not-false _ c.if-not-s.false in
    let o = opened g.at h _ (c.is_whole.ensures _ _ _ _ g.at.under (at_some g.at h)) _ _ _ _ _ (rw c.in-Halves.is at (c.step-x.ensures _ g.part)) in
    let f = c.first-f.ensures in
    let few = c.requires.5.few in
    let l = (c.count-l.ensures _ _ _ _ _ (count_left o few _ f)).1 in
    let y = c.second-g.ensures in
    (omega (arith, second-falls o.part _ f.0 l _ y, c.decreases), (_, _, _, _, _, count-right o few _ f.0 l _ y))

pub overflow_add-l : goal.overflow_add-l
overflow_add-l τ c =
    let g = c.requires.5 in
    let h = not-false _ c.if-not-s.false in
    let o = opened g.at h _ (c.is_whole.ensures _ _ _ _ g.at.under (at_some g.at h)) _ _ _ _ _ (rw c.in-Halves.is at (c.step-x.ensures _ g.part)) in
    let few = c.requires.5.few in
    let f = c.first-f.ensures in
    let x = c.count-l.ensures _ _ _ _ _ (count_left o few _ f) in
    let y = c.count-r.ensures _ _ _ _ _ (count-right o few _ f.0 x.1 _ c.second-g.ensures) in
    omega (arith, x.0, y.0, count-sum o few)

pub glued_size-nodes-requires : goal.glued_size-nodes-requires
glued_size-nodes-requires τ c =
    let g = c.requires.5 in
    let h = not-false _ c.if-not-s.false in
    let o = opened g.at h _ (c.is_whole.ensures _ _ _ _ g.at.under (at_some g.at h)) _ _ _ _ _ (rw c.in-Halves.is at (c.step-x.ensures _ g.part)) in
    let few = c.requires.5.few in
    let f = c.first-f.ensures in
    let x = c.count-l.ensures _ _ _ _ _ (count_left o few _ f) in
    let y = c.count-r.ensures _ _ _ _ _ (count-right o few _ f.0 x.1 _ c.second-g.ensures) in
    omega (arith, x.0, y.0, count-sum o few)

pub returns-in-Settled : goal.returns-in-Settled
returns-in-Settled τ c q p u ms t g = let h = not-false _ c.if-not-s.false in
    let v = rw c.in-Settled.is at (c.step-x.ensures t g.part) in
    (c.flat_size-nodes.ensures ∙ rw (settled g.at h _ (c.is_whole.ensures q p u ms g.at.under (at_some g.at h)) _ t v), c.pass-behind.ensures q p u ms g.at)

pub returns-in-Halves : goal.returns-in-Halves
returns-in-Halves τ c q p u ms t g =
    let h = not-false _ c.if-not-s.false in
    let o = opened g.at h _ (c.is_whole.ensures _ _ _ _ g.at.under (at_some g.at h)) _ _ _ _ _ (rw c.in-Halves.is at (c.step-x.ensures _ g.part)) in
    let f = c.first-f.ensures in
    let x = c.count-l.ensures _ _ _ _ _ (count_left o g.few _ f) in
    let e = c.second-g.ensures in
    let y = c.count-r.ensures _ _ _ _ _ (count-right o g.few _ f.0 x.1 _ e) in
    (c.glued_size-nodes.ensures (one o) (two o) (cc (x.0, y.0)) ∙ rw (opened-pour o), pass-both o.part _ e.0 y.1)
