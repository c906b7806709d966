-- `grow` meets its contract, by the depth that is left. The loop's invariant: from what was written before it, it has gone on to what is written now. Assumes
-- nothing.
use native.Mathlib.Omega.{arith}
use Rattle.kept_build.proofs.Growing.{first, first_one, first-writable, first-going, going-long}
use Rattle.kept_build.proofs.Growing.{branch_leaves, going-turn, going_end, turn-grows, turn-falls, turn-start, turn-branch, turn-again}
use Rattle.kept_build.proofs.+grow.Goals as goal

pub overflow_sub-o : goal.overflow_sub-o
overflow_sub-o τ c = let (q, p, t, ms, g) = c.requires in omega (arith, first_one g)

pub write_node-requires : goal.write_node-requires
write_node-requires τ c = let (q, p, t, ms, g) = c.requires in first-writable g

pub advance-h-requires : goal.advance-h-requires
advance-h-requires τ c = let (q, p, t, ms, g) = c.requires in let k = first g in (_, _, k.flow, k.net)

pub loop-h-init : goal.loop-h-init
loop-h-init τ c v q p t ms s = s

pub grow-r-requires : goal.grow-r-requires
grow-r-requires τ c = let (q, p, t, ms, h) = c.requires in
    let f = first h in
    let g = c.loop-h.invariant _ q p t ms (first-going h f c.write_node.ensures (c.advance-h.ensures f.m f.ns f.flow f.net)) in
    let k = going-turn g c.loop-h-test.true in
    (omega (arith, turn-falls g k, c.decreases), (_, _, _, _, turn-grows g k))

pub overflow_sub-i : goal.overflow_sub-i
overflow_sub-i τ c = let (q, p, t, ms, h) = c.requires in
    let f = first h in
    let g = c.loop-h.invariant _ q p t ms (first-going h f c.write_node.ensures (c.advance-h.ensures f.m f.ns f.flow f.net)) in
    let k = going-turn g c.loop-h-test.true in
    omega (arith, turn-start g k (c.grow-r.ensures _ _ _ _ (turn-grows g k)).0)

pub branch-w-requires : goal.branch-w-requires
branch-w-requires τ c = let (q, p, t, ms, h) = c.requires in
    let f = first h in
    let g = c.loop-h.invariant _ q p t ms (first-going h f c.write_node.ensures (c.advance-h.ensures f.m f.ns f.flow f.net)) in
    let k = going-turn g c.loop-h-test.true in
    turn-branch g k (c.grow-r.ensures _ _ _ _ (turn-grows g k)).0

pub loop-h-smaller : goal.loop-h-smaller
loop-h-smaller τ c = let (q, p, t, ms, h) = c.requires in
    let f = first h in
    let g = c.loop-h.invariant _ q p t ms (first-going h f c.write_node.ensures (c.advance-h.ensures f.m f.ns f.flow f.net)) in
    let k = going-turn g c.loop-h-test.true in
    omega (arith, turn-start g k (c.grow-r.ensures _ _ _ _ (turn-grows g k)).0)

pub loop-h-preserved : goal.loop-h-preserved
loop-h-preserved τ c v q p t ms s = let g = c.loop-h.invariant v q p t ms s in
    let k = going-turn g c.loop-h-test.true in
    let r = c.grow-r.ensures _ _ _ _ (turn-grows g k) in
    let y = branch_leaves g k in
    turn-again g k r.0 (c.branch-w.ensures k.at y.begins y.deep) r.1

pub shape_of-w : goal.shape_of-w
shape_of-w τ c = let (q, p, t, ms, h) = c.requires in
    let f = first h in
    let g = c.loop-h.invariant _ q p t ms (first-going h f c.write_node.ensures (c.advance-h.ensures f.m f.ns f.flow f.net)) in
    going-long g

pub returns : goal.returns
returns τ c q p t ms g = let f = first g in
    going_end (c.loop-h.invariant _ q p t ms (first-going g f c.write_node.ensures (c.advance-h.ensures f.m f.ns f.flow f.net))) c.loop-h-test.false
