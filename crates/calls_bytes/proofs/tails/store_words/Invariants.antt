-- `tails::store_words` meets its contract. The loop's invariant: the numbers from i on complete it. Assumes nothing.
use mathlib.Core.Path.{◌≡◌}
use Prim.Native.Nat.{◌+◌, ◌*◌, ◌-◌}
use Rattle.nodes.specs.Words.{put}
use Rattle.calls_bytes.specs.Tails.{numbers_from}
use Rattle.calls_bytes.proofs.tails.store_words.Given as goal

abbrev pub invariant-loop-i : goal.invariant-loop-i
invariant-loop-i l = put l.w (l.first + l.i) (numbers_from l.s (l.p + 4 * l.i) (l.count - l.i)) ≡ put l.initial.w l.first (numbers_from l.s l.p l.count)
