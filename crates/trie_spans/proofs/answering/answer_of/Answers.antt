-- `answering::answer_of` meets its contract, by its tests. Assumes nothing.
use mathlib.Core.Path.{sym, ◌∙◌}
use Rattle.trie_spans.proofs.Answered.{answer-none, answer-leaf, answer-more}
use Rattle.trie_spans.proofs.answering.answer_of.Goals as goal

pub returns-then-n-eq0 : goal.returns-then-n-eq0
returns-then-n-eq0 c t e = answer-none _ t (sym e ∙ c.if-n-eq0.true)

pub returns-then-n-eq1 : goal.returns-then-n-eq1
returns-then-n-eq1 c t e = answer-leaf _ t (sym e ∙ c.if-n-eq1.true)

pub returns : goal.returns
returns c t e = answer-more _ t _ e c.if-n-eq0.false c.if-n-eq1.false
