-- `flat_size` meets its contract. Assumes nothing.
use mathlib.Core.Path.{◌∙◌}
use Rattle.trie_pour.proofs.Parts.{flat-byte}
use Rattle.trie_pour.proofs.flat_size.Goals as goal

pub returns : goal.returns
returns c = c.from.ensures ∙ flat-byte c.args.full
