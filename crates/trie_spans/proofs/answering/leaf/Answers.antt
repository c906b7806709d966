-- `answering::leaf` meets its contract, by its test. Assumes nothing.
use mathlib.Core.Path.{sym}
use borrow.Author.Tests.{eq-eqb, ne_eqb}
use Rattle.nodes.proofs.Put.{put-nil}
use Rattle.trie_spans.proofs.answering.leaf.Goals as goal

pub returns-then-n-eq1 : goal.returns-then-n-eq1
returns-then-n-eq1 c = rw (eq-eqb _ 1 c.if-n-eq1.true) c.store.ensures

pub returns-else-n-eq1 : goal.returns-else-n-eq1
returns-else-n-eq1 c = rw (ne_eqb _ 1 c.if-n-eq1.false) (sym (put-nil _ _))
