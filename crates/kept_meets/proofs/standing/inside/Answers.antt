-- `standing::inside` meets its contract. The loop's invariant: the part of what `at` means, inside what is left of the bits, is the part that is asked for.
-- Assumes nothing.
use native.Mathlib.Omega.{arith}
use Rattle.nets.proofs.Handing.{Hands, hands, hands_end}
use Rattle.kept_meets.proofs.Inside.{way-start, way-some, way-nothing, way_end, way_on}
use Rattle.kept_meets.proofs.standing.inside.Goals as goal

more : (c : goal.After-piece-at) → Hands c.loop-at.left c.in-Some.bit c.in-Some.later
more c = hands _ _ _ _ (omega (arith, c.loop-at.invariant.0, c.requires.0)) c.next-next.ensures c.in-Some.is

pub loop-at-init : goal.loop-at-init
loop-at-init c = (omega arith, way-start _ _ _ _ _ _ (omega arith))

pub returns-then-at-eq0 : goal.returns-then-at-eq0
returns-then-at-eq0 c = way-nothing c.loop-at.invariant.1 c.if-at-eq0.true

pub returns-in-None : goal.returns-in-None
returns-in-None c = way_end c.loop-at.invariant.1 (hands_end c.loop-at.left _ (omega (arith, c.loop-at.invariant.0, c.requires.0)) c.next-next.ensures
    c.in-None.is)

pub overflow_sub-s : goal.overflow_sub-s
overflow_sub-s c = c.loop-at.invariant.0

pub piece-at-requires : goal.piece-at-requires
piece-at-requires c = let p = c.requires.1 in
    let (o, g, t, m) = p.1 in
    let v = c.loop-at.invariant.1 in
    let (u, k) = way-some v o g t m in
    (p.0, (o, g, v.gone, u, k, v.far))

pub loop-at-smaller : goal.loop-at-smaller
loop-at-smaller c = omega (arith, (more c).len)

pub loop-at-preserved : goal.loop-at-preserved
loop-at-preserved c = let l = c.loop-at in
    let h = more c in
    (omega (arith, h.len, l.invariant.0), way_on l.invariant.1 _ _ _ h.bits (omega (arith, h.len, l.invariant.0)) c.piece-at.ensures)
