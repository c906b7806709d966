-- `removing::split` meets its contract: the words behind move, and the chain is written before them. Assumes nothing.
use native.Mathlib.Omega.{arith}
use Rattle.nodes.proofs.Segments.{segment-fit}
use Rattle.trie_remove.proofs.Splices.{spliced-split}
use Rattle.trie_remove.proofs.split.Goals as goal

pub shift-requires : goal.shift-requires
shift-requires c = let p = c.requires in omega (arith, segment-fit p.1.2, p.1.2, p.1.3)

pub returns : goal.returns
returns c t rest g = spliced-split g _ _ _ c.requires.0 c.shift.ensures c.chain.ensures
