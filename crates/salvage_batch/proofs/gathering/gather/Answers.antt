-- `gathering::gather` meets its contract. The loop's invariant: the entries held are what is left so far of the entries read. Assumes nothing.
use mathlib.Core.Path.{◌≡◌, refl, ◌∙◌}
use native.Mathlib.Nat.{le_trans}
use native.Mathlib.Omega.{arith}
use Rattle.setfile_format.proofs.Written.{file_bytes-mono}
use Rattle.salvage_lists.specs.Salvaging.{in_range_in}
use Rattle.salvage_batch.proofs.Thinnings.{kept_same, kept_trans}
use Rattle.salvage_batch.proofs.Holdings.{room-none, holds-stands, squeezed-batch, gathers-kept}
use Rattle.salvage_batch.proofs.gathering.gather.Goals as goal

pub loop-i-init : goal.loop-i-init
unfolding in_range_in
loop-i-init c = (kept_same _ _ _, room-none _ _ c.requires.3 refl refl)

pub take-h-requires : goal.take-h-requires
unfolding in_range_in
take-h-requires c = let p = c.requires in
    record { i_lt_most_entries = (omega (arith, p.0, c.loop-i-test.true), le_trans (file_bytes-mono c.args.family (omega (arith, c.loop-i-test.true))) p.1, p.2); holds = c.loop-i.invariant.1 }

pub loop-i-preserved : goal.loop-i-preserved
unfolding in_range_in
loop-i-preserved c = (kept_trans c.loop-i.invariant.0 c.take-h.ensures.kept, c.take-h.ensures.holds_2)

pub squeeze-count-requires : goal.squeeze-count-requires
unfolding in_range_in
squeeze-count-requires c = holds-stands c.loop-i.invariant.1

pub shape_of-buf : goal.shape_of-buf
unfolding in_range_in
shape_of-buf c = c.squeeze-count.ensures.kept.long ∙ c.loop-i.invariant.0.long

pub returns : goal.returns
unfolding in_range_in
returns c = let e : c.loop-i.i ≡ c.args.n = omega (arith, c.loop-i.auto.i-end, c.loop-i-test.false) in
    gathers-kept c.loop-i.invariant.0 (squeezed-batch (rw e at c.loop-i.invariant.1) c.squeeze-count.ensures _ refl c.is_some-more.ensures)
