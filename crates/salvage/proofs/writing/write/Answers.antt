-- `writing::write` meets its contract, each return by the tests on the way to it. Assumes nothing.
-- those in range, and those that are not
use mathlib.Core.Path.{◌≡◌}
use Prim.Native.Nat.{◌+◌, ◌-◌}
use native.Mathlib.Omega.{arith}
use Rattle.salvage_lists.specs.Salvaging.{long_in}
use Rattle.salvage.proofs.Tallies.{long-few}
use Rattle.salvage.proofs.Returns.{counted-few, size_few, counted-least, returns-short, returns-filling, returns-file, sure-fits}
use Rattle.salvage.proofs.writing.write.Goals as goal

parts : (c : goal.Then-out-size) → let a = c.args in (a.n - c.tally-t.result.long) + long_in a.family a.bytes.now 0 a.n ≡ a.n
parts c = let a = c.args in omega (arith, c.tally-t.ensures.1, long-few a.family a.bytes.now 0 a.n)

parts-slice_known-3-1 : (c : goal.After-slice_known-3-1) → let a = c.args in (a.n - c.tally-t.result.long) + long_in a.family a.bytes.now 0 a.n ≡ a.n
parts-slice_known-3-1 c = let a = c.args in omega (arith, c.tally-t.ensures.1, long-few a.family a.bytes.now 0 a.n)

pub tally-t-requires : goal.tally-t-requires
tally-t-requires c = let p = c.requires in (p.few, p.fits)

pub overflow_sub-kept : goal.overflow_sub-kept
overflow_sub-kept c = let a = c.args in omega (arith, c.tally-t.ensures.1, long-few a.family a.bytes.now 0 a.n)

pub sure-room-requires : goal.sure-room-requires
sure-room-requires c = let p = c.requires in omega (arith, p.few)

pub count-m-requires : goal.count-m-requires
count-m-requires c = let p = c.requires in
    (p.known, p.few, p.fits, sure-fits _ _ c.sure-room.ensures)

pub file_bytes-size-requires : goal.file_bytes-size-requires
file_bytes-size-requires c = let p = c.requires in
    counted-few p c.count-m.ensures

pub returns-then-out-size : goal.returns-then-out-size
returns-then-out-size c = let p = c.requires in
    returns-short p c.count-m.ensures c.file_bytes-size.ensures _ (parts c) c.sure-room.ensures c.if-out-size.true

pub write_file-requires : goal.write_file-requires
write_file-requires c = let p = c.requires in
    record { n_le_most_entries = (p.few, p.fits); by_index = (_, _, returns-filling p c.count-m.ensures c.file_bytes-size.ensures c.if-out-size.false) }

pub overflow_cast-counts : goal.overflow_cast-counts
overflow_cast-counts c = let p = c.requires in
    omega (arith, p.few)

pub overflow_sub-counts : goal.overflow_sub-counts
overflow_sub-counts c = let p = c.requires in
    omega (arith, counted-least p c.count-m.ensures c.file_bytes-size.ensures _ (parts-slice_known-3-1 c))

pub overflow_cast-counts-2 : goal.overflow_cast-counts-2
overflow_cast-counts-2 c = let p = c.requires in
    omega (arith, p.few)

pub overflow_cast-counts-3 : goal.overflow_cast-counts-3
overflow_cast-counts-3 c = let p = c.requires in
    omega (arith, size_few p c.count-m.ensures c.file_bytes-size.ensures)

pub returns : goal.returns
returns c = let p = c.requires in
    let k = c.count-m.ensures in
    let q = c.file_bytes-size.ensures in
    returns-file p k q _ (parts-slice_known-3-1 c) c.if-out-size.false (c.write_file.ensures _ _ (returns-filling p k q c.if-out-size.false)) c.tally-t.ensures.0 c.tally-t.ensures.1
