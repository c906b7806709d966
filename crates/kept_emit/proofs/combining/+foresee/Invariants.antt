-- `combining::foresee` meets its contract, by the fuel. Assumes nothing.
use Rattle.kept_emit.proofs.combining.+foresee.Given as goal

abbrev pub decreases-foresee : goal.decreases-foresee
decreases-foresee l = l.fuel
