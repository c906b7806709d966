-- `writing::grow` meets its contract. The loop's invariant: from what was written before it, it has gone on to what is written now. Assumes nothing.
use mathlib.Core.Path.{refl}
use native.Mathlib.Omega.{arith}
use Rattle.setfile_build.proofs.Building.{first, first-chains, first-few, first-going, going_end, going-long, going, going_step, going-appends, going-again}
use Rattle.setfile_build.proofs.writing.grow.Goals as goal

pub chain-requires : goal.chain-requires
chain-requires c = first-chains c.requires.1 refl

pub overflow_add-e : goal.overflow_add-e
overflow_add-e c = omega (arith, first-few c.requires.1)

pub overflow_add-e-2 : goal.overflow_add-e-2
overflow_add-e-2 c = omega (arith, first-few c.requires.1)

pub advance-h-requires : goal.advance-h-requires
advance-h-requires c = let k = first c.requires.1 in (_, _, k.flow, k.net)

pub loop-h-init : goal.loop-h-init
loop-h-init c v t s = s

pub append-requires : goal.append-requires
append-requires c = let k = first c.requires.1 in
    let g = c.loop-h.invariant _ _ (first-going c.requires.1 refl c.chain.ensures k (c.advance-h.ensures k.q k.ms k.flow k.net)) in
    going-appends g (going g c.loop-h-test.true)

pub overflow_sub-e : goal.overflow_sub-e
overflow_sub-e c = let k = first c.requires.1 in
    let g = c.loop-h.invariant _ _ (first-going c.requires.1 refl c.chain.ensures k (c.advance-h.ensures k.q k.ms k.flow k.net)) in
    omega (arith, going_step g (going g c.loop-h-test.true))

pub overflow_add-e-in-loop-h-2 : goal.overflow_add-e-in-loop-h-2
overflow_add-e-in-loop-h-2 c = let k = first c.requires.1 in
    let g = c.loop-h.invariant _ _ (first-going c.requires.1 refl c.chain.ensures k (c.advance-h.ensures k.q k.ms k.flow k.net)) in
    omega (arith, going_step g (going g c.loop-h-test.true))

pub advance-h-requires-in-loop-h : goal.advance-h-requires-in-loop-h
advance-h-requires-in-loop-h c = let k = first c.requires.1 in
    let g = c.loop-h.invariant _ _ (first-going c.requires.1 refl c.chain.ensures k (c.advance-h.ensures k.q k.ms k.flow k.net)) in
    let t = going g c.loop-h-test.true in
    (_, _, t.flow, t.net)

pub loop-h-smaller : goal.loop-h-smaller
loop-h-smaller c = let k = first c.requires.1 in
    let g = c.loop-h.invariant _ _ (first-going c.requires.1 refl c.chain.ensures k (c.advance-h.ensures k.q k.ms k.flow k.net)) in
    omega (arith, going_step g (going g c.loop-h-test.true))

pub loop-h-preserved : goal.loop-h-preserved
loop-h-preserved c v t s = let g = c.loop-h.invariant v t s in
    let k = going g c.loop-h-test.true in
    going-again g k c.append.ensures (c.advance-h-in-loop-h.ensures k.m k.ms k.flow k.net)

pub shape_of-w : goal.shape_of-w
shape_of-w c = let k = first c.requires.1 in
    let g = c.loop-h.invariant _ _ (first-going c.requires.1 refl c.chain.ensures k (c.advance-h.ensures k.q k.ms k.flow k.net)) in
    going-long g

pub returns : goal.returns
returns c t g = let k = first g in
    going_end (c.loop-h.invariant _ t (first-going g refl c.chain.ensures k (c.advance-h.ensures k.q k.ms k.flow k.net))) c.loop-h-test.false
