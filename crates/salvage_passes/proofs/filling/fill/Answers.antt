-- `filling::fill` meets its contract. The loop's invariant: what is written is the beginning of what is left. Assumes nothing.
use mathlib.Core.Path.{◌≡◌, refl, sym, ◌∙◌}
use Prim.Native.Nat.{◌-◌}
use native.Mathlib.Omega.{arith}
use Rattle.salvage_passes.proofs.filling.fill.Goals as goal

pub loop-done-init : goal.loop-done-init
loop-done-init c = (refl, λ v T o. o)

pub overflow_add-done : goal.overflow_add-done
overflow_add-done c = omega (arith, (c.loop-done.invariant.1 _ _ c.requires.by_index.2).most, (c.loop-done.invariant.1 _ _ c.requires.by_index.2).few)

pub fill_batch-done-requires : goal.fill_batch-done-requires
fill_batch-done-requires c = let p = c.requires.n_le_most_entries in
    record { n_le_most_entries = (p.0, p.1, c.loop-done-test.true); by_index = (_, _, c.loop-done.invariant.1 _ _ c.requires.by_index.2) }

pub loop-done-smaller : goal.loop-done-smaller
loop-done-smaller c = omega (arith, c.fill_batch-done.ensures.0, c.loop-done-test.true)

pub loop-done-preserved : goal.loop-done-preserved
loop-done-preserved c = let e = c.fill_batch-done.ensures.1 in
    ((e _ _ (c.loop-done.invariant.1 _ _ c.requires.by_index.2)).kept.long ∙ sym c.requires.by_index.2.kept.long, λ v T o. e v T (c.loop-done.invariant.1 v T o))

pub fill_last-requires : goal.fill_last-requires
fill_last-requires c = let p = c.requires.n_le_most_entries in
    record { n_le_most_entries = (p.0, p.1, omega (arith, c.if-done-m.true, c.loop-done-test.false)); by_index = (_, _, c.loop-done.invariant.1 _ _ c.requires.by_index.2) }

pub shape_of-out-then-done-m : goal.shape_of-out-then-done-m
shape_of-out-then-done-m c = (c.fill_last.ensures _ _ (c.loop-done.invariant.1 _ _ c.requires.by_index.2)).kept.long ∙ sym c.requires.by_index.2.kept.long

pub returns-then-done-m : goal.returns-then-done-m
returns-then-done-m c v T o = c.fill_last.ensures v T (c.loop-done.invariant.1 v T o)

pub shape_of-out-else-done-m : goal.shape_of-out-else-done-m
shape_of-out-else-done-m c = c.loop-done.invariant.0

pub returns-else-done-m : goal.returns-else-done-m
returns-else-done-m c v T o = let p = c.loop-done.invariant.1 v T o in
    let e : c.loop-done.done ≡ c.args.m = omega (arith, p.most, c.if-done-m.false) in
    rw e at p
