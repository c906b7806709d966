-- `extents::kind` meets its contract, by its tests. Assumes nothing.
use mathlib.Core.Path.{◌∙◌, sym}
use Rattle.trie_spans.proofs.Spans.{span-empty, span-place, span-leaf, span-inner}
use Rattle.trie_spans.proofs.extents.kind.Goals as goal

pub returns-then-i-e : goal.returns-then-i-e
returns-then-i-e c o g t s = span-empty t s c.if-i-e.true

pub word-requires : goal.word-requires
word-requires c = span-place _ c.requires.3 c.if-i-e.false

pub returns-then-word-eq0 : goal.returns-then-word-eq0
returns-then-word-eq0 c o g t s = span-leaf t s c.if-i-e.false (sym c.word.ensures.0 ∙ c.if-word-eq0.true)

pub returns : goal.returns
returns c o g t s = span-inner t s c.if-i-e.false (λ e. c.if-word-eq0.false (c.word.ensures.0 ∙ e))
