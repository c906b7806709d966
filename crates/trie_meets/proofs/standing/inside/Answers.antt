-- `standing::inside` meets its contract. The loop's invariant: the part of what `at` means, inside what is left of the bits, is the part that is asked for.
-- Assumes nothing.
use native.Mathlib.Omega.{arith}
use Rattle.nets.proofs.Handing.{Hands, hands, hands_end}
use Rattle.trie_meets.proofs.Inside.{way-start, way-some, way-nothing, way_end, way_on}
use Rattle.trie_meets.proofs.standing.inside.Goals as goal

more : (c : goal.After-piece-at) → Hands c.loop-at.left c.in-Some.bit c.in-Some.later
more c = hands _ _ _ _ c.loop-at.invariant.0 c.next-next.ensures c.in-Some.is

pub loop-at-init : goal.loop-at-init
loop-at-init c = (c.requires.0, way-start _ _ _ _)

pub returns-then-at-eq0 : goal.returns-then-at-eq0
returns-then-at-eq0 c = way-nothing c.loop-at.invariant.1 c.if-at-eq0.true

pub returns-in-None : goal.returns-in-None
returns-in-None c = let l = c.loop-at in
    way_end l.invariant.1 (hands_end l.left _ l.invariant.0 c.next-next.ensures c.in-None.is)

pub piece-at-requires : goal.piece-at-requires
piece-at-requires c = let (o, g, t, m) = c.requires.1 in
    let (u, n) = way-some c.loop-at.invariant.1 o g t m in
    (o, g, u, n)

pub loop-at-smaller : goal.loop-at-smaller
loop-at-smaller c = omega (arith, (more c).len)

pub loop-at-preserved : goal.loop-at-preserved
loop-at-preserved c = let l = c.loop-at in
    (omega (arith, (more c).len, l.invariant.0), way_on l.invariant.1 _ _ _ (more c).bits c.piece-at.ensures)
