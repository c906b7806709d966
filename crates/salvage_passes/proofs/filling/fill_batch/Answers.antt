-- `filling::fill_batch` meets its contract. Assumes nothing.
use native.Mathlib.Omega.{arith}
use Rattle.salvage_passes.proofs.Fillings.{at-place, filling-stands, at-fits, at-few, part_room, part-some, part_filled}
use Rattle.salvage_passes.proofs.filling.fill_batch.Goals as goal

pub last-after-requires : goal.last-after-requires
last-after-requires c = filling-stands c.requires.by_index.2

pub overflow_mul-at : goal.overflow_mul-at
overflow_mul-at c = omega (arith, at-few c.requires.by_index.2 (at-place c.args.family c.args.done c.entry_bytes.ensures))

pub slice_bounds-gather-count : goal.slice_bounds-gather-count
slice_bounds-gather-count c = omega (arith, at-fits c.requires.by_index.2 (at-place c.args.family c.args.done c.entry_bytes.ensures))

pub slice_bounds-gather-start : goal.slice_bounds-gather-start
slice_bounds-gather-start c = omega (arith, at-fits c.requires.by_index.2 (at-place c.args.family c.args.done c.entry_bytes.ensures))

pub gather-b-requires : goal.gather-b-requires
gather-b-requires c = let p = c.requires in
    (p.n_le_most_entries.0, p.n_le_most_entries.1, c.last-after.ensures.0, part_room p.by_index.2 (at-place c.args.family c.args.done c.entry_bytes.ensures) p.n_le_most_entries.2)

pub returns : goal.returns
returns c = let p = c.requires in
    (part-some p.by_index.2 (at-place c.args.family c.args.done c.entry_bytes.ensures) c.gather-b.ensures c.last-after.ensures.1 (omega (arith, p.n_le_most_entries.2)), λ v T o. part_filled o (at-place c.args.family c.args.done c.entry_bytes.ensures) c.gather-b.ensures c.last-after.ensures.1 (omega (arith, p.n_le_most_entries.2)))
