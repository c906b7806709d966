-- `running::run` meets its contract. The loop's invariant: what is left of the run from here is what is left from the start. Assumes nothing.
use Prim.Native.Nat.{◌-◌}
use lib.ListN.{length}
use Rattle.calls.proofs.Turns.{Going}
use Rattle.calls.proofs.running.run.Given as goal

abbrev pub invariant-turns : goal.invariant-turns
invariant-turns l = Going l.initial.pool l.initial.rows l.calls l.initial.out l.pool l.rows l.out l.place

abbrev pub decreases-turns : goal.decreases-turns
decreases-turns l = length l.calls - l.place.at
