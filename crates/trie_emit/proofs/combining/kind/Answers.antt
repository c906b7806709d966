-- `combining::kind` meets its contract, by its tests. Assumes nothing.
use mathlib.Core.Path.{◌∙◌, sym}
use Rattle.trie_emit.proofs.Sources.{kind-none, kind-all, kind-place, kind-leaf, kind-inner}
use Rattle.trie_emit.proofs.combining.kind.Goals as goal

pub returns-then-i-eq0 : goal.returns-then-i-eq0
returns-then-i-eq0 c o g t m = kind-none _ t m c.if-i-eq0.true

pub returns-then-i-eq-ALL : goal.returns-then-i-eq-ALL
returns-then-i-eq-ALL c o g t m = kind-all _ t m c.if-i-eq-ALL.true

pub word-requires : goal.word-requires
word-requires c = kind-place _ _ c.requires.3 c.if-i-eq0.false c.if-i-eq-ALL.false

pub returns-then-word-eq0 : goal.returns-then-word-eq0
returns-then-word-eq0 c o g t m = kind-leaf _ t m c.if-i-eq0.false c.if-i-eq-ALL.false (sym c.word.ensures.0 ∙ c.if-word-eq0.true)

pub returns : goal.returns
returns c o g t m = kind-inner _ t m c.if-i-eq0.false c.if-i-eq-ALL.false (λ e. c.if-word-eq0.false (c.word.ensures.0 ∙ e))
