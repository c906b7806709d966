-- `pass` meets its contract, by the depth that is left. Assumes nothing.
use mathlib.Core.Path.{sym, ◌∙◌}
use native.Mathlib.Omega.{arith}
use borrow.Author.Tests.{not-true, not-false}
use Rattle.setfile_below.proofs.Streams.{at_some, pass-nothing, whole-flow, pass-whole, parted, part-under, at_first, first-falls, at_second, second-falls, pass-both}
use Rattle.setfile_below.proofs.+pass.Goals as goal

pub returns-then-not-s : goal.returns-then-not-s
returns-then-not-s τ c q p t ms g = pass-nothing g (not-true _ c.if-not-s.true)

pub is_whole-requires : goal.is_whole-requires
is_whole-requires τ c = tt

pub advance-requires : goal.advance-requires
advance-requires τ c = let (q, p, t, ms, g) = c.requires in
    let h = at_some g (not-false _ c.if-not-s.false) in
    let f = whole-flow g (sym (c.is_whole.ensures q p t ms g.under h) ∙ c.if-is_whole.true) h in
    (_, _, f.0, f.1)

pub returns-then-is_whole : goal.returns-then-is_whole
returns-then-is_whole τ c q p t ms g = let h = at_some g (not-false _ c.if-not-s.false) in
    let e = sym (c.is_whole.ensures q p t ms g.under h) ∙ c.if-is_whole.true in
    let f = whole-flow g e h in
    pass-whole g e h (c.advance.ensures _ _ f.0 f.1)

pub first-x-requires : goal.first-x-requires
first-x-requires τ c =
    let a = c.requires.4 in
    let h = not-false _ c.if-not-s.false in
    let g = parted a h (sym (c.is_whole.ensures _ _ _ _ a.under (at_some a h)) ∙ c.if-is_whole.false) in
    part-under g

pub pass-h-requires : goal.pass-h-requires
pass-h-requires τ c =
    let a = c.requires.4 in
    let h = not-false _ c.if-not-s.false in
    let g = parted a h (sym (c.is_whole.ensures _ _ _ _ a.under (at_some a h)) ∙ c.if-is_whole.false) in
    (omega (arith, first-falls g _ c.first-x.ensures, c.decreases), (_, _, _, _, at_first g _ c.first-x.ensures))

pub second-y-requires : goal.second-y-requires
second-y-requires τ c =
    let a = c.requires.4 in
    let h = not-false _ c.if-not-s.false in
    let g = parted a h (sym (c.is_whole.ensures _ _ _ _ a.under (at_some a h)) ∙ c.if-is_whole.false) in
    part-under g

pub pass-requires : goal.pass-requires
pass-requires τ c =
    let a = c.requires.4 in
    let h = not-false _ c.if-not-s.false in
    let g = parted a h (sym (c.is_whole.ensures _ _ _ _ a.under (at_some a h)) ∙ c.if-is_whole.false) in
    let x = c.first-x.ensures in
    let k = c.pass-h.ensures _ _ _ _ (at_first g _ x) in
    (omega (arith, second-falls g _ x.0 k _ c.second-y.ensures, c.decreases), (_, _, _, _, at_second g _ x.0 k _ c.second-y.ensures))

pub returns : goal.returns
returns τ c q p t ms s =
    let h = not-false _ c.if-not-s.false in
    let g = parted s h (sym (c.is_whole.ensures _ _ _ _ s.under (at_some s h)) ∙ c.if-is_whole.false) in
    let x = c.first-x.ensures in
    let k = c.pass-h.ensures _ _ _ _ (at_first g _ x) in
    let y = c.second-y.ensures in
    pass-both g _ y.0 (c.pass.ensures _ _ _ _ (at_second g _ x.0 k _ y))
