-- `combining::combine` meets its contract, by the fuel. Assumes nothing.
use Rattle.trie_combine.proofs.combining.+combine.Given as goal

abbrev pub decreases-combine : goal.decreases-combine
decreases-combine l = l.fuel
