-- `counting::spread` meets its contract, by the fuel. Assumes nothing.
use Rattle.trie_combine.proofs.counting.+spread.Given as goal

abbrev pub decreases-spread : goal.decreases-spread
decreases-spread l = l.fuel
