-- `counting::count_more` meets its contract, in the output and in the local buffer. Assumes nothing.
use mathlib.Core.Path.{◌≡◌, refl}
use Prim.Native.Nat.{◌≤◌}
use native.Mathlib.Omega.{arith}
use borrow.Author.Rules.{rules}
use lib.ListN.{length}
use Rattle.setfile_format.specs.Files.{most_entries}
use Rattle.salvage_lists.specs.Salvaging.{in_range_in}
use Rattle.salvage_lists.proofs.Counts.{length-in_range_in}
use Rattle.salvage_batch.proofs.Thinnings.{kept_same}
use Rattle.salvage_passes.proofs.Batches.{room_out}
use Rattle.salvage_passes.proofs.counting.count_more.Goals as goal

few : (c : goal.After-count_batch-arg-1) → let a = c.args in length (in_range_in a.family a.bytes.now 0 a.n) ≤ most_entries
few c = omega (arith, c.requires.n_le_most_entries.0, length-in_range_in c.args.family c.args.bytes.now 0 c.args.n)

pub count_batch-requires : goal.count_batch-requires
count_batch-requires c = let p = c.requires in
    record { n_le_most_entries = (p.n_le_most_entries.0, p.n_le_most_entries.1, room_out p.sofar.0 refl (few c) c.if-c-gt-ROOM.true c.if-c-room.true p.n_le_most_entries.3); sofar = p.sofar }

pub returns-then-c-room : goal.returns-then-c-room
returns-then-c-room c = let r = c.count_batch.ensures in
    record { local_len_unchanged = refl; kept = (r.0, λ z. absurd (omega (arith, c.if-c-room.true, c.if-c-gt-ROOM.true, z))); onward = r.1 }

pub count_batch-requires-2 : goal.count_batch-requires-2
count_batch-requires-2 c = let p = c.requires in
    record { n_le_most_entries = (p.n_le_most_entries.0, p.n_le_most_entries.1, p.n_le_most_entries.2); sofar = p.sofar }

pub returns : goal.returns
returns c = let r = c.count_batch-2.ensures in
    record { local_len_unchanged = r.0.long; kept = (kept_same _ _ _, λ z. refl); onward = r.1 }
