-- `writing::put_next` meets its contract. Assumes nothing.
-- the entry's place, by the numbers of the call
use mathlib.Core.Path.{◌≡◌, refl}
use Prim.Native.Nat.{◌+◌, ◌*◌, ◌≤◌}
use native.Mathlib.Omega.{arith}
use lib.ListN.{length, get_or}
use Rattle.setfile_format.specs.Files.{entry_bytes, entry_at}
use Rattle.setfile_format.proofs.Written.{entry_at-next}
use Rattle.setfile_put.proofs.Stores.{entry-count}
use Rattle.setfile_put.proofs.writing.put_next.Goals as goal

place : (c : goal.After-entry_bytes) → let a = c.args in
    16 + c.entry_bytes.result * get_or a.next.now a.x.len 0 ≡ entry_at a.x.family (get_or a.next.now a.x.len 0)
place c = rw c.entry_bytes.ensures

fits : (c : goal.After-entry_bytes) → let a = c.args in
    16 + c.entry_bytes.result * get_or a.next.now a.x.len 0 + entry_bytes a.x.family ≤ length a.out.now
fits c = omega (arith, place c, entry_at-next c.args.x.family (get_or c.args.next.now c.args.x.len 0), c.requires)

place-slice_known-2-1 : (c : goal.After-slice_known-2-1) → let a = c.args in
    16 + c.entry_bytes.result * get_or a.next.now a.x.len 0 ≡ entry_at a.x.family (get_or a.next.now a.x.len 0)
place-slice_known-2-1 c = rw c.entry_bytes.ensures

pub overflow_mul-entry_bytes : goal.overflow_mul-entry_bytes
overflow_mul-entry_bytes c = omega (arith, fits c)

pub overflow_add-entry_bytes : goal.overflow_add-entry_bytes
overflow_add-entry_bytes c = omega (arith, fits c)

pub put_at-requires : goal.put_at-requires
put_at-requires c = (c.requires.0, fits c)

pub overflow_add-next : goal.overflow_add-next
overflow_add-next c = omega (arith, entry-count c.args.x.family (get_or c.args.next.now c.args.x.len 0 + 1), c.requires)

pub returns : goal.returns
returns c = (refl, λ f p e h. rw (place-slice_known-2-1 c) at (c.put_at.ensures f p e h))
