-- `tails::put_rows` meets its contract. The loop's invariant: the bytes of the rows from i on complete it. Assumes nothing.
use mathlib.Core.Path.{◌≡◌}
use Prim.Native.Nat.{◌+◌, ◌*◌, ◌-◌}
use Rattle.nodes.specs.Words.{put}
use Rattle.calls_bytes.specs.Bytes.{u64_bytes}
use Rattle.calls_bytes.specs.Tails.{words_from, row_bytes}
use Rattle.calls_bytes.proofs.tails.put_rows.Given as goal

abbrev pub invariant-loop-i : goal.invariant-loop-i
invariant-loop-i l = put l.out (l.at + 8 * l.i) (row_bytes u64_bytes (words_from l.rows l.i (l.count - l.i))) ≡ put l.initial.out l.at (row_bytes u64_bytes (words_from l.rows 0 l.count))
