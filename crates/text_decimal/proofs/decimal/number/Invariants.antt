-- `decimal::number` meets its contract. The loop's invariant: what is still to be read completes the number. Assumes nothing.
use Prim.Native.Nat.{◌-◌}
use lib.ListN.{length}
use Rattle.text_decimal.proofs.Loop.{Reading}
use Rattle.text_decimal.proofs.decimal.number.Given as goal

abbrev pub invariant-loop-value : goal.invariant-loop-value
invariant-loop-value l = Reading l.s l.most l.start l.at l.value

abbrev pub decreases-loop-value : goal.decreases-loop-value
decreases-loop-value l = length l.s - l.at
