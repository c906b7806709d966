-- `filling::fill` meets its contract, by the depth that is left. Assumes nothing.
use native.Mathlib.Omega.{arith}
use borrow.Author.Tests.{not-true, not-false}
use Rattle.setfile_below.proofs.Streams.{at_some, pass-nothing, part-under, at_first, first-falls, at_second, second-falls, pass-both}
use Rattle.setfile_passes.proofs.Passes.{opened, settled, opened-pour, kept}
use Rattle.setfile_passes.proofs.Fills.{at-short, fill-keeps, fill-room, fill-as, fill-low, fill-left, fill-right, fill-closing}
use Rattle.setfile_passes.proofs.filling.+fill.Goals as goal

pub keep-end-requires : goal.keep-end-requires
keep-end-requires τ c = let (q, p, u, ms, t, g, f) = c.requires in
    (t, fill-keeps f (kept g (not-true _ c.if-not-s.true) _ t))

pub returns-then-not-s : goal.returns-then-not-s
returns-then-not-s τ c q p u ms t g f = let h = not-true _ c.if-not-s.true in
    let e = kept g h _ t in
    (fill-as e (c.keep-end.ensures t (fill-keeps f e)), pass-nothing g h)

pub is_whole-requires : goal.is_whole-requires
is_whole-requires τ c = tt

pub step-x-requires : goal.step-x-requires
step-x-requires τ c = let (q, p, u, ms, t, g, f) = c.requires in (t, f.part)

pub flat-end-requires : goal.flat-end-requires
flat-end-requires τ c = let (q, p, u, ms, t, g, f) = c.requires in
    let h = not-false _ c.if-not-s.false in
    let v = rw c.in-Settled.is at (c.step-x.ensures t f.part) in
    fill-room f (settled g h _ (c.is_whole.ensures q p u ms g.under (at_some g h)) _ t v)

pub pass-behind-requires : goal.pass-behind-requires
pass-behind-requires τ c = let (q, p, u, ms, t, g, f) = c.requires in (q, p, u, ms, g)

pub overflow_add-o : goal.overflow_add-o
overflow_add-o τ c =
    let g = c.requires.5 in
    let v = c.requires.6 in
    let h = not-false _ c.if-not-s.false in
    let o = opened g h _ (c.is_whole.ensures _ _ _ _ g.under (at_some g h)) _ _ _ _ _ (rw c.in-Halves.is at (c.step-x.ensures _ v.part)) in
    omega (arith, fill-low v o)

pub first-requires : goal.first-requires
first-requires τ c =
    let g = c.requires.5 in
    let v = c.requires.6 in
    let h = not-false _ c.if-not-s.false in
    let o = opened g h _ (c.is_whole.ensures _ _ _ _ g.under (at_some g h)) _ _ _ _ _ (rw c.in-Halves.is at (c.step-x.ensures _ v.part)) in
    part-under o.part

pub fill-l-requires : goal.fill-l-requires
fill-l-requires τ c =
    let g = c.requires.5 in
    let v = c.requires.6 in
    let h = not-false _ c.if-not-s.false in
    let o = opened g h _ (c.is_whole.ensures _ _ _ _ g.under (at_some g h)) _ _ _ _ _ (rw c.in-Halves.is at (c.step-x.ensures _ v.part)) in
    (omega (arith, first-falls o.part _ c.first.ensures, c.decreases), (_, _, _, _, _, at_first o.part _ c.first.ensures, fill-left v o))

pub second-requires : goal.second-requires
second-requires τ c =
    let g = c.requires.5 in
    let v = c.requires.6 in
    let h = not-false _ c.if-not-s.false in
    let o = opened g h _ (c.is_whole.ensures _ _ _ _ g.under (at_some g h)) _ _ _ _ _ (rw c.in-Halves.is at (c.step-x.ensures _ v.part)) in
    part-under o.part

pub fill-r-requires : goal.fill-r-requires
fill-r-requires τ c =
    let g = c.requires.5 in
    let v = c.requires.6 in
    let h = not-false _ c.if-not-s.false in
    let o = opened g h _ (c.is_whole.ensures _ _ _ _ g.under (at_some g h)) _ _ _ _ _ (rw c.in-Halves.is at (c.step-x.ensures _ v.part)) in
    let f = c.first.ensures in
    let l = c.fill-l.ensures _ _ _ _ _ (at_first o.part _ f) (fill-left v o) in (
      omega (arith, second-falls o.part _ f.0 l.1 _ c.second.ensures, c.decreases),
      (_, _, _, _, _, at_second o.part _ f.0 l.1 _ c.second.ensures, fill-right v o (at-short c.requires.5) l.0),
    )

pub close-end-requires : goal.close-end-requires
close-end-requires τ c =
    let g = c.requires.5 in
    let v = c.requires.6 in
    let h = not-false _ c.if-not-s.false in
    let o = opened g h _ (c.is_whole.ensures _ _ _ _ g.under (at_some g h)) _ _ _ _ _ (rw c.in-Halves.is at (c.step-x.ensures _ v.part)) in
    let f = c.first.ensures in
    let l = c.fill-l.ensures _ _ _ _ _ (at_first o.part _ f) (fill-left v o) in
    let e = at-short c.requires.5 in
    let r = c.fill-r.ensures _ _ _ _ _ (at_second o.part _ f.0 l.1 _ c.second.ensures) (fill-right v o e l.0) in
    (_, _, _, fill-closing v o e l.0 r.0)

pub returns-in-Settled : goal.returns-in-Settled
returns-in-Settled τ c q p u ms t g f = let h = not-false _ c.if-not-s.false in
    let v = rw c.in-Settled.is at (c.step-x.ensures t f.part) in
    (fill-as (settled g h _ (c.is_whole.ensures q p u ms g.under (at_some g h)) _ t v) c.flat-end.ensures, c.pass-behind.ensures q p u ms g)

pub returns-in-Halves : goal.returns-in-Halves
returns-in-Halves τ c q p u ms t g v =
    let h = not-false _ c.if-not-s.false in
    let o = opened g h _ (c.is_whole.ensures _ _ _ _ g.under (at_some g h)) _ _ _ _ _ (rw c.in-Halves.is at (c.step-x.ensures _ v.part)) in
    let f = c.first.ensures in
    let l = c.fill-l.ensures _ _ _ _ _ (at_first o.part _ f) (fill-left v o) in
    let s = c.second.ensures in
    let e = at-short g in
    let r = c.fill-r.ensures _ _ _ _ _ (at_second o.part _ f.0 l.1 _ s) (fill-right v o e l.0) in
    (fill-as (opened-pour o) (c.close-end.ensures _ _ _ (fill-closing v o e l.0 r.0)), pass-both o.part _ s.0 r.1)
