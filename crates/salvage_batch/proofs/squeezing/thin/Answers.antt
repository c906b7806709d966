-- `squeezing::thin` meets its contract. The loop's invariant: what is kept, and what will be kept of the rest, are what thinning keeps of all. Assumes nothing.
use mathlib.Core.Path.{refl}
use native.Mathlib.Omega.{arith}
use Rattle.salvage_batch.proofs.Thinnings.{stands-first, thins-none, thinning-start, thinning-end}
use Rattle.salvage_batch.proofs.squeezing.thin.Goals as goal

pub returns-then-n-eq0 : goal.returns-then-n-eq0
returns-then-n-eq0 c = thins-none c.if-n-eq0.true

pub entry-requires : goal.entry-requires
entry-requires c = stands-first c.requires c.if-n-eq0.false

pub loop-i-init : goal.loop-i-init
loop-i-init c = thinning-start c.requires (λ i. omega (arith, c.slice_known-1.given i)) (omega (arith, c.if-n-eq0.false)) refl c.entry.ensures.value

pub thin_one-t-requires : goal.thin_one-t-requires
thin_one-t-requires c = (_, _, c.loop-i.invariant, c.loop-i-test.true)

pub loop-i-preserved : goal.loop-i-preserved
loop-i-preserved c = c.thin_one-t.ensures _ _ c.loop-i.invariant c.loop-i-test.true

pub shape_of-buf : goal.shape_of-buf
shape_of-buf c = c.loop-i.invariant.kept.long

pub returns : goal.returns
returns c = thinning-end c.loop-i.invariant c.loop-i-test.false
