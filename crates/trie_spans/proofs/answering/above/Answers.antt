-- `answering::above` meets its contract, by its test. Assumes nothing.
use borrow.Author.Rules.{rules}
use Rattle.trie_spans.proofs.Answered.{above-none, above-fits, above_word, above-stays, above-put}
use Rattle.trie_spans.proofs.answering.above.Goals as goal

pub returns-then-n-eq0 : goal.returns-then-n-eq0
returns-then-n-eq0 c v d t h = above-none h c.if-n-eq0.true

pub leaf-requires : goal.leaf-requires
leaf-requires c = let (v, d, t, h) = c.requires in (search rules, λ q. (above-fits h c.if-n-eq0.false).0)

pub store-requires : goal.store-requires
store-requires c = let (v, d, t, h) = c.requires in
    (h.one, (above-stays h c.if-n-eq0.false _ _ c.leaf.ensures, above_word h))

pub returns : goal.returns
returns c v d t h = above-put h c.if-n-eq0.false _ _ c.leaf.ensures c.store.ensures
