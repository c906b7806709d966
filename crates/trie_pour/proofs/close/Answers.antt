-- `close` meets its contract. Assumes nothing.
use Rattle.trie_pour.proofs.Parts.{close-none, close-fits, close-node}
use Rattle.trie_pour.proofs.close.Goals as goal

pub returns-then-e-o : goal.returns-then-e-o
returns-then-e-o c v l r k = close-none k c.if-e-o.true

pub links-requires : goal.links-requires
links-requires c = close-fits c.requires.3 c.if-e-o.false

pub returns : goal.returns
returns c v l r k = close-node k c.if-e-o.false c.links.ensures
