-- `halves::whole` meets its contract. Assumes nothing.
use Rattle.trie_paths.proofs.Paths.{path-root}
use Rattle.trie_paths.proofs.halves.whole.Goals as goal

pub returns : goal.returns
returns c = path-root _
