-- `reading::zeros_at` meets its contract. The loop's invariant: the count so far. Assumes nothing.
use mathlib.Core.Path.{◌≡◌}
use lib.ListN.{take}
use Rattle.nodes.specs.Words.{zeros}
use Rattle.nodes.proofs.reading.zeros_at.Given as goal

abbrev pub invariant-loop-x : goal.invariant-loop-x
invariant-loop-x l = l.count ≡ zeros (take l.x-index l.x-items)
