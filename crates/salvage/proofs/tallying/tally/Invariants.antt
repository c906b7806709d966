-- `tallying::tally` meets its contract. The loop's invariant: the counts are those of the entries read. Assumes nothing.
use mathlib.Core.Path.{◌≡◌}
use Rattle.salvage_lists.specs.Salvaging.{long_in, trimmed_in}
use Rattle.salvage.proofs.tallying.tally.Given as goal

abbrev pub invariant-loop-i : goal.invariant-loop-i
invariant-loop-i l = (l.trimmed ≡ trimmed_in l.family l.bytes 0 l.i) × (l.long ≡ long_in l.family l.bytes 0 l.i)
