-- `link` meets its contract, by its test. Assumes nothing.
use Rattle.kept_sieve.proofs.Marked.{link-none, link-some}
use Rattle.kept_sieve.proofs.link.Goals as goal

pub returns-then-from-o : goal.returns-then-from-o
returns-then-from-o c p is le = link-none _ _ _ _ _ _ _ c.if-from-o.true

pub returns : goal.returns
returns c p is le = link-some _ _ _ _ _ _ _ _ c.if-from-o.false (c.write_node.ensures p is le)
