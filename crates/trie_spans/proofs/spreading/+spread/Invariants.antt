-- `spreading::spread` meets its contract, by the fuel. Assumes nothing.
use Rattle.trie_spans.proofs.spreading.+spread.Given as goal

abbrev pub decreases-spread : goal.decreases-spread
decreases-spread l = l.fuel
