-- `combining::emit` meets its contract, by the fuel. Assumes nothing.
use Rattle.kept_emit.proofs.combining.+emit.Given as goal

abbrev pub decreases-emit : goal.decreases-emit
decreases-emit l = l.fuel
