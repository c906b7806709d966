-- `answering::nodes_of` meets its contract: the end of a trie less its beginning. Assumes nothing.
use native.Mathlib.Omega.{arith}
use Rattle.trie_emit.proofs.Answers.{end_is}
use Rattle.trie_spans.proofs.answering.nodes_of.Goals as goal

pub overflow_sub-result : goal.overflow_sub-result
overflow_sub-result c = let (t, e) = c.requires.1 in omega (arith, c.end_of.ensures, end_is _ t _ e)

pub returns : goal.returns
returns c t e = omega (arith, c.end_of.ensures, end_is _ t _ e)
