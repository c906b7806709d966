-- `cutting::cut` meets its contract, by the depth that is left. Assumes nothing.
use native.Mathlib.Omega.{arith}
use borrow.Author.Tests.{not-true, not-false}
use Rattle.setfile_below.proofs.Streams.{at_some, pass-nothing, part-under, first-falls, second-falls, pass-both}
use Rattle.setfile_passes.proofs.Cuts.{cut_keeps, cut-kept, cut-shade, cut-fork, fork-low, cut_left, cut_right, cut-closing, cut-done}
use Rattle.setfile_passes.proofs.cutting.+cut.Goals as goal

pub keep-end-requires : goal.keep-end-requires
keep-end-requires τ c = let (q, p, u, ms, t, g) = c.requires in (t, cut_keeps g)

pub returns-then-not-s : goal.returns-then-not-s
returns-then-not-s τ c q p u ms t g = let h = not-true _ c.if-not-s.true in
    (cut-kept g h _ (c.keep-end.ensures t (cut_keeps g)), pass-nothing g.at h)

pub is_whole-requires : goal.is_whole-requires
is_whole-requires τ c = tt

pub middle-m-requires : goal.middle-m-requires
middle-m-requires τ c = let (q, p, u, ms, t, g) = c.requires in (t, g.here)

pub shade-requires : goal.shade-requires
shade-requires τ c = c.requires

pub returns-then-m-eq0 : goal.returns-then-m-eq0
returns-then-m-eq0 τ c q p u ms t g = let h = not-false _ c.if-not-s.false in
    let z = c.shade.ensures q p u ms t g in
    (rw (cut-shade g h _ (c.is_whole.ensures q p u ms g.at.under (at_some g.at h)) _ (c.middle-m.ensures t g.here) c.if-m-eq0.true _) z.0, z.1)

pub overflow_add-i : goal.overflow_add-i
overflow_add-i τ c =
    let g = c.requires.5 in
    let h = not-false _ c.if-not-s.false in
    let k = cut-fork g h _ (c.is_whole.ensures _ _ _ _ g.at.under (at_some g.at h)) _ (c.middle-m.ensures _ g.here) c.if-m-eq0.false in
    let f = fork-low k in omega arith

pub overflow_add-o : goal.overflow_add-o
overflow_add-o τ c =
    let g = c.requires.5 in
    let h = not-false _ c.if-not-s.false in
    let k = cut-fork g h _ (c.is_whole.ensures _ _ _ _ g.at.under (at_some g.at h)) _ (c.middle-m.ensures _ g.here) c.if-m-eq0.false in
    let f = fork-low k in omega arith

pub first-requires : goal.first-requires
first-requires τ c =
    let g = c.requires.5 in
    let h = not-false _ c.if-not-s.false in
    let k = cut-fork g h _ (c.is_whole.ensures _ _ _ _ g.at.under (at_some g.at h)) _ (c.middle-m.ensures _ g.here) c.if-m-eq0.false in
    part-under k.part

pub cut-l-requires : goal.cut-l-requires
cut-l-requires τ c =
    let g = c.requires.5 in
    let h = not-false _ c.if-not-s.false in
    let k = cut-fork g h _ (c.is_whole.ensures _ _ _ _ g.at.under (at_some g.at h)) _ (c.middle-m.ensures _ g.here) c.if-m-eq0.false in
    (omega (arith, first-falls k.part _ c.first.ensures, c.decreases), (_, _, _, _, _, cut_left k _ c.first.ensures))

pub second-requires : goal.second-requires
second-requires τ c =
    let g = c.requires.5 in
    let h = not-false _ c.if-not-s.false in
    let k = cut-fork g h _ (c.is_whole.ensures _ _ _ _ g.at.under (at_some g.at h)) _ (c.middle-m.ensures _ g.here) c.if-m-eq0.false in
    part-under k.part

pub cut-r-requires : goal.cut-r-requires
cut-r-requires τ c =
    let g = c.requires.5 in
    let h = not-false _ c.if-not-s.false in
    let k = cut-fork g h _ (c.is_whole.ensures _ _ _ _ g.at.under (at_some g.at h)) _ (c.middle-m.ensures _ g.here) c.if-m-eq0.false in
    let f = c.first.ensures in
    let l = c.cut-l.ensures _ _ _ _ _ (cut_left k _ f) in (
      omega (arith, second-falls k.part _ f.0 l.1 _ c.second.ensures, c.decreases),
      (_, _, _, _, _, cut_right k _ l.0 _ f.0 l.1 _ c.second.ensures),
    )

pub close-end-requires : goal.close-end-requires
close-end-requires τ c =
    let g = c.requires.5 in
    let h = not-false _ c.if-not-s.false in
    let k = cut-fork g h _ (c.is_whole.ensures _ _ _ _ g.at.under (at_some g.at h)) _ (c.middle-m.ensures _ g.here) c.if-m-eq0.false in
    let f = c.first.ensures in
    let l = c.cut-l.ensures _ _ _ _ _ (cut_left k _ f) in
    let r = c.cut-r.ensures _ _ _ _ _ (cut_right k _ l.0 _ f.0 l.1 _ c.second.ensures) in
    (_, _, _, cut-closing k _ l.0 r.0)

pub returns : goal.returns
returns τ c q p u ms t g =
    let h = not-false _ c.if-not-s.false in
    let k = cut-fork g h _ (c.is_whole.ensures _ _ _ _ g.at.under (at_some g.at h)) _ (c.middle-m.ensures _ g.here) c.if-m-eq0.false in
    let f = c.first.ensures in
    let l = c.cut-l.ensures _ _ _ _ _ (cut_left k _ f) in
    let e = c.second.ensures in
    let r = c.cut-r.ensures _ _ _ _ _ (cut_right k _ l.0 _ f.0 l.1 _ e) in
    (cut-done k _ l.0 r.0 (c.close-end.ensures _ _ _ (cut-closing k _ l.0 r.0)), pass-both k.part _ e.0 r.1)
