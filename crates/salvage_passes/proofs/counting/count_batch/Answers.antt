-- `counting::count_batch` meets its contract. Assumes nothing.
use mathlib.Core.Path.{refl}
use native.Mathlib.Omega.{arith}
use borrow.Author.Rules.{rules}
use Rattle.salvage_lists.proofs.Counts.{length-in_range_in}
use Rattle.salvage_passes.proofs.Batches.{sofar-few, gathers-stands, onward}
use Rattle.salvage_passes.proofs.counting.count_batch.Goals as goal

pub gather-b-requires : goal.gather-b-requires
gather-b-requires c = let p = c.requires in (p.n_le_most_entries.0, p.n_le_most_entries.1, p.sofar.0.ended, p.n_le_most_entries.2)

pub last-after-requires : goal.last-after-requires
last-after-requires c = let p = c.requires in
    gathers-stands p.sofar.0 p.sofar.1 c.gather-b.ensures p.n_le_most_entries.2

pub overflow_add-result : goal.overflow_add-result
overflow_add-result c = let p = c.requires in
    omega (arith, c.gather-b.ensures.most, p.n_le_most_entries.2.few, p.n_le_most_entries.0, sofar-few p.sofar.0, length-in_range_in c.args.family c.args.bytes.now 0 c.args.n)

pub returns : goal.returns
returns c = let p = c.requires in
    (c.gather-b.ensures.kept, onward p.sofar.0 p.sofar.1 c.gather-b.ensures _ refl refl c.last-after.ensures)
