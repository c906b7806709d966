-- `tally` meets its contract. The loop's invariant: from what was passed before it, it has gone on to what is passed now. Assumes nothing.
use native.Mathlib.Omega.{arith}
use Rattle.kept_build.proofs.Tallying.{first, first-passing, passing-next, passing-few, passing-again, passing-end}
use Rattle.kept_build.proofs.tally.Goals as goal

pub advance-h-requires : goal.advance-h-requires
advance-h-requires c = let (q, p, t, ms, g, n) = c.requires in let k = first g n in (_, _, k.flow, k.net)

pub loop-h-init : goal.loop-h-init
loop-h-init c q p t ms s = s

pub overflow_add-nodes : goal.overflow_add-nodes
overflow_add-nodes c = let (q, p, t, ms, h, n) = c.requires in
    let f = first h n in
    let g = c.loop-h.invariant q p t ms (first-passing h n f (c.advance-h.ensures _ _ f.flow f.net)) in
    omega (arith, passing-few g (passing-next g c.loop-h-test.true))

pub advance-h-requires-in-loop-h : goal.advance-h-requires-in-loop-h
advance-h-requires-in-loop-h c = let (q, p, t, ms, h, n) = c.requires in
    let f = first h n in
    let g = c.loop-h.invariant q p t ms (first-passing h n f (c.advance-h.ensures _ _ f.flow f.net)) in
    let k = passing-next g c.loop-h-test.true in
    (_, _, k.flow, k.net)

pub loop-h-smaller : goal.loop-h-smaller
loop-h-smaller c = let (q, p, t, ms, h, n) = c.requires in
    let f = first h n in
    let g = c.loop-h.invariant q p t ms (first-passing h n f (c.advance-h.ensures _ _ f.flow f.net)) in
    omega (arith, passing-few g (passing-next g c.loop-h-test.true))

pub loop-h-preserved : goal.loop-h-preserved
loop-h-preserved c q p t ms s = let g = c.loop-h.invariant q p t ms s in
    let k = passing-next g c.loop-h-test.true in
    passing-again g k (c.advance-h-in-loop-h.ensures _ _ k.flow k.net)

pub returns : goal.returns
returns c q p t ms g n = let f = first g n in
    passing-end (c.loop-h.invariant q p t ms (first-passing g n f (c.advance-h.ensures _ _ f.flow f.net))) c.loop-h-test.false
