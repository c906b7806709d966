-- `counting::count` meets its contract, by the fuel. Assumes nothing.
use Rattle.trie_combine.proofs.counting.+count.Given as goal

abbrev pub decreases-count : goal.decreases-count
decreases-count l = l.fuel
