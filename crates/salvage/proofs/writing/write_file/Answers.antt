-- `writing::write_file` meets its contract: filled, sorted, headed. Assumes nothing.
use native.Mathlib.Omega.{arith}
use Rattle.salvage.proofs.Files.{written-file}
use Rattle.salvage.proofs.Returns.{header-least}
use Rattle.salvage.proofs.writing.write_file.Goals as goal

pub fill-requires : goal.fill-requires
fill-requires c = let whole = c.requires in record { n_le_most_entries = whole.n_le_most_entries; by_index = whole.by_index }

pub sort-requires : goal.sort-requires
sort-requires c = let p = c.requires in
    (c.fill.ensures _ _ p.by_index.2).fits

pub put_header-requires : goal.put_header-requires
put_header-requires c = let p = c.requires in
    let o = c.fill.ensures _ _ p.by_index.2 in
    (o.few, header-least _ _ o.fits c.sort.ensures.long)

pub returns : goal.returns
returns c v T o = written-file (c.fill.ensures v T o) (λ i. omega (arith, c.slice_known-2-1.given i)) (λ i. omega (arith, c.slice_known-3-1.given i)) c.sort.ensures c.put_header.ensures
