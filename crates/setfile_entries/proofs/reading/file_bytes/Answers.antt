-- `reading::file_bytes` meets its contract. Assumes nothing.
use Prim.Native.Nat.{◌+◌, ◌*◌, ◌≤◌}
use native.Mathlib.Omega.{arith}
use Rattle.setfile_format.specs.Files.{file_bytes}
use Rattle.setfile_format.proofs.Written.{file_bytes-few}
use Rattle.setfile_entries.proofs.reading.file_bytes.Goals as goal

fits : (c : goal.After-entry_bytes) → 16 + c.entry_bytes.result * c.args.n ≤ 71303184
unfolding file_bytes
fits c = rw c.entry_bytes.ensures (file_bytes-few c.args.family c.args.n c.requires)

pub overflow_mul-result : goal.overflow_mul-result
unfolding file_bytes
overflow_mul-result c = omega (arith, fits c)

pub overflow_add-result : goal.overflow_add-result
unfolding file_bytes
overflow_add-result c = omega (arith, fits c)

pub returns : goal.returns
unfolding file_bytes
returns c = rw c.entry_bytes.ensures
