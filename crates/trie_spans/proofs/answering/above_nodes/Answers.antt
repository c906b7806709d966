-- `answering::above_nodes` meets its contract, by its test. Assumes nothing.
use Rattle.trie_spans.proofs.Answered.{above-nodes-none, above-nodes-some}
use Rattle.trie_spans.proofs.answering.above_nodes.Goals as goal

pub returns-then-n-eq0 : goal.returns-then-n-eq0
returns-then-n-eq0 c d t e = above-nodes-none _ d t e c.if-n-eq0.true

pub returns : goal.returns
returns c d t e = above-nodes-some _ d t e c.if-n-eq0.false
