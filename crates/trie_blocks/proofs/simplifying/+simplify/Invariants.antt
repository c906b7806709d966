-- `simplifying::simplify` meets its contract, by the trie's levels. Assumes nothing.
use Rattle.trie_blocks.proofs.simplifying.+simplify.Given as goal

abbrev pub decreases-simplify : goal.decreases-simplify
decreases-simplify l = l.fuel
