-- `combined::leaves` meets its contract, by the fuel. Assumes nothing.
use Rattle.kept_meets.proofs.combined.+leaves.Given as goal

abbrev pub decreases-leaves : goal.decreases-leaves
decreases-leaves l = l.fuel
